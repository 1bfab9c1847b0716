-- What a crash may leave of a medium, and its room.
use Rattle.std.specs.Prelude.{◌⊎◌, ℕ, List, length}
use Rattle.disk_core.specs.Room.{Room}
use Rattle.disk_mem.specs.declared.medium.Medium.{Medium}
use Rattle.disk_mem.specs.Events.{Course, course_of, MayLeave, MightHaveLeft}

-- what became of the medium since it was made
abbrev pub course : Medium → Course
course m = course_of m.tear (length m.pages.bytes) m.events.items m.pieces.items

-- what a crash now may leave
abbrev pub images : Medium → List ℕ → Type 0
images m = MayLeave (course m)

-- what a crash since the moment t may have left; a moment is a number of events
abbrev pub left : Medium → ℕ → List ℕ → Type 0
left m t image = images m image ⊎ MightHaveLeft m.tear (length m.pages.bytes) m.events.items m.pieces.items t image

abbrev pub room_of : Medium → Room
room_of m = record { writes = m.room_writes; bytes = m.room_bytes }
