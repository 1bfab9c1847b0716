mod TwoHalves
