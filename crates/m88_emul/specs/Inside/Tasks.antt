-- What software is to do, before memory is read, and the aid that this comes to.
use Rattle.std.specs.Prelude.{ℕ, false, List, []}
use Rattle.m88_emul.specs.Aid.{Aid, loads_one, loads_two, places_from, stores_one, stores_two, takes_quotient}
use Rattle.m88_emul.specs.declared.task.Task.{Task}
use Rattle.m88_emul.specs.declared.task.Task.TheVariants as task

-- the aid that a task comes to with memory by bytes
abbrev pub aid_by : Task → (ℕ → ℕ) → Aid
aid_by (task.Divide d quotient) memory = takes_quotient d quotient
aid_by (task.LoadHalf d place signed) memory = loads_one memory signed 2 d place
aid_by (task.LoadWord d place) memory = loads_one memory false 4 d place
aid_by (task.LoadDouble d place) memory = loads_two memory d place
aid_by (task.StoreHalf value place) memory = stores_one 2 value place
aid_by (task.StoreWord value place) memory = stores_one 4 value place
aid_by (task.StoreDouble value second place) memory = stores_two value second place

-- the places of the bytes that it loads or stores
abbrev pub task_places : Task → List ℕ
task_places (task.Divide d quotient) = []
task_places (task.LoadHalf d place signed) = places_from place 2
task_places (task.LoadWord d place) = places_from place 4
task_places (task.LoadDouble d place) = places_from place 8
task_places (task.StoreHalf value place) = places_from place 2
task_places (task.StoreWord value place) = places_from place 4
task_places (task.StoreDouble value second place) = places_from place 8

-- of those that it stores
abbrev pub stored_places : Task → List ℕ
stored_places (task.StoreHalf value place) = places_from place 2
stored_places (task.StoreWord value place) = places_from place 4
stored_places (task.StoreDouble value second place) = places_from place 8
stored_places _ = []
