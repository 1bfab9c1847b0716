pub mod Clusters
