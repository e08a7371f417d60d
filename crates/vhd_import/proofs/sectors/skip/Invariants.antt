use Rattle.std.proofs.Common.{◌≡◌, ◌≤◌, ℕ, List, Option, length}
use Rattle.vhd_stream.specs.Files.{File}
use Rattle.vhd_import.specs.Progress.{HasRead, IsQuiet}
use Rattle.vhd_import.specs.Puts.{Put}
use Rattle.vhd_import.specs.Room.{Target}
use Rattle.vhd_import.specs.Verdicts.{sector_limit}
use Rattle.vhd_import.proofs.SkipLaws.{IsSkipped}
use Rattle.vhd_import.proofs.sectors.skip.Given as goal

abbrev pub invariant-loop-count : goal.invariant-loop-count
invariant-loop-count g l = record {
  few : l.count ≤ sector_limit;
  calm : g.S.Source.faults l.source ≡ g.S.Source.faults l.fn.source;
  skipped : (t : Target) (had : Option (List ℕ)) (front : File) (puts : List Put) → HasRead t had (g.S.Source.content l.fn.source) front puts → length front ≡ l.from → IsQuiet t front l.until
      → IsSkipped t had (g.S.Source.content l.source) front puts l.count;
}
