use Rattle.std.proofs.Common.{◌≡◌, ◌≤◌, ◌-◌, ◌∷◌, ℕ, List, [], Option, false, true, length}
use Rattle.sm_disk.specs.Streams.{Takes}
use Rattle.vhd_import.specs.declared.heads.Beginning.TheVariants.{Other}
use Rattle.vhd_import.specs.Beginnings.{BeginsSo}
use Rattle.vhd_import.specs.Puts.{Put}
use Rattle.vhd_import.specs.Room.{is_too_large}
use Rattle.vhd_import.specs.Verdicts.{sector_limit}
use Rattle.vhd_import.proofs.FixedLaws.{IsFixedRead}
use Rattle.vhd_import.proofs.fixed.read_fixed.Given as goal

abbrev pub invariant-loop-part : goal.invariant-loop-part
invariant-loop-part g l = record {
  some : 1 ≤ l.count;
  few : l.count ≤ sector_limit;
  fits : is_too_large (g.N.NewDisk.target l.fn.disk) (l.count - 1) ≡ false;
  begun : g.N.NewDisk.begun l.disk ≡ true;
  target : g.N.NewDisk.target l.disk ≡ g.N.NewDisk.target l.fn.disk;
  since : (o : g.N.NewDisk.Origin) → g.N.NewDisk.since l.fn.disk o → g.N.NewDisk.since l.disk o;
  calm : g.S.Source.faults l.source ≡ g.S.Source.faults l.fn.source;
  quiet : g.N.NewDisk.faults l.disk ≡ g.N.NewDisk.faults l.fn.disk;
  read : (had : Option (List ℕ)) → length l.first ≡ 512 → BeginsSo Other (l.first ∷ []) → Takes had l.first (g.S.Source.content l.fn.source)
      → (puts : List Put) × g.N.NewDisk.holds l.disk puts × IsFixedRead (g.N.NewDisk.target l.fn.disk) had (g.S.Source.content l.source) l.count l.held puts;
}

abbrev pub decreases-loop-part : goal.decreases-loop-part
decreases-loop-part g l = sector_limit - l.count
