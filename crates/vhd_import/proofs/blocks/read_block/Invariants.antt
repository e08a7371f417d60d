use Rattle.std.proofs.Common.{◌≡◌, ◌+◌, ◌≤◌, ℕ, List, Option, true}
use Rattle.vhd_stream.specs.Files.{File, FileLayout}
use Rattle.vhd_import.specs.Blocks.{IsBeforeBlock}
use Rattle.vhd_import.specs.Puts.{Put}
use Rattle.vhd_import.specs.Verdicts.{sector_limit}
use Rattle.vhd_import.proofs.InBlockLaws.{IsInBlock}
use Rattle.vhd_import.proofs.blocks.read_block.Given as goal

abbrev pub invariant-loop-i : goal.invariant-loop-i
invariant-loop-i g l = record {
  few : l.fn.entry.place + 1 + l.i ≤ sector_limit;
  begun : g.N.NewDisk.begun l.disk ≡ true;
  target : g.N.NewDisk.target l.disk ≡ g.N.NewDisk.target l.fn.disk;
  since : (o : g.N.NewDisk.Origin) → g.N.NewDisk.since l.fn.disk o → g.N.NewDisk.since l.disk o;
  calm : g.S.Source.faults l.source ≡ g.S.Source.faults l.fn.source;
  quiet : g.N.NewDisk.faults l.disk ≡ g.N.NewDisk.faults l.fn.disk;
  read : (had : Option (List ℕ)) (front : File) (puts : List Put) (f : FileLayout)
      → IsBeforeBlock (g.N.NewDisk.target l.fn.disk) had (g.S.Source.content l.fn.source) front puts f l.sectors l.fn.entry.place l.fn.entry.block → f.block ≡ l.block
      → g.N.NewDisk.holds l.fn.disk puts → IsInBlock (g.N.NewDisk.target l.fn.disk) had (g.S.Source.content l.source) front (g.N.NewDisk.holds l.disk) l.fn.entry.place l.i l.bits;
}
