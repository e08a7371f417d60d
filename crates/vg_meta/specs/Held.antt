-- What is seen of the volumes in memory while a change is done.
use Rattle.std.specs.Prelude.{◌-◌, vec_capacity, vec_len}
use Rattle.std.specs.Global.{Vec}
use Rattle.vg_meta.specs.declared.volumes.Volume.{Volume}
use Rattle.vg_meta.specs.Roomy.{RoomyTable}

-- the volumes, and the rows that may be added
abbrev pub held : Vec Volume → RoomyTable
held v = record { sequence = 0; rows = v.items; spare = vec_capacity v - vec_len v }
