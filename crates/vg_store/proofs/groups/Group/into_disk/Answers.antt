use Rattle.std.proofs.Common.{◌*◌}
use Rattle.std.specs.Prelude.{vec_len}
use Rattle.vg_meta.specs.Roomy.{table_alone}
use Rattle.vg_meta.specs.Text.{text}
use Rattle.vg_layout.specs.Fields.{plate, pointer}
use Rattle.vg_store.specs.Leaving.{leaves_early, leaves_one}
use Rattle.vg_store.proofs.groups.Group.into_disk.Goals as goal

pub returns-clause-leaves : goal.returns-clause-leaves
returns-clause-leaves g c = λ told usable u image left.
    let s = c.args.self in
    leaves_one (g.D.Disk.size s.disk) (s.label.extents * s.label.geometry.extent) (g.D.Disk.held s.disk) (plate s.label) (pointer s.header) (table_alone s.table) u (text (table_alone s.table)) image s.area (s.rests told usable)
    (s.summed usable) s.spelled left

pub returns-clause-leaves_old : goal.returns-clause-leaves_old
returns-clause-leaves_old g c = λ told early u image left.
    let s = c.args.self in
    leaves_early (g.D.Disk.size s.disk) (s.label.extents * s.label.geometry.extent) (g.D.Disk.held s.disk) (plate s.label) (pointer s.header) (table_alone s.table) u s.version (vec_len s.buffer) image s.area s.few s.known early s.room s.fits
    (s.taken told early) left
