use Rattle.std.proofs.Common.{◌≡◌, ◌+◌, ◌≤◌, ℕ, List, Option, true, drop}
use Rattle.vhd_stream.specs.Files.{File, FileLayout, table_end}
use Rattle.vhd_import.specs.Apart.{stand_apart}
use Rattle.vhd_import.specs.Blocks.{IsBeforeBlocks}
use Rattle.vhd_import.specs.Puts.{Put}
use Rattle.vhd_import.specs.Verdicts.{sector_limit}
use Rattle.vhd_import.proofs.WalkLaws.{IsAmong}
use Rattle.vhd_import.proofs.blocks.read_blocks.Given as goal

abbrev pub invariant-loop-entry : goal.invariant-loop-entry
invariant-loop-entry g l = record {
  few : l.count ≤ sector_limit;
  apart : stand_apart l.count (1 + l.block) (drop l.entry-index l.entries) ≡ true;
  begun : g.N.NewDisk.begun l.disk ≡ true;
  target : g.N.NewDisk.target l.disk ≡ g.N.NewDisk.target l.fn.disk;
  since : (o : g.N.NewDisk.Origin) → g.N.NewDisk.since l.fn.disk o → g.N.NewDisk.since l.disk o;
  calm : g.S.Source.faults l.source ≡ g.S.Source.faults l.fn.source;
  quiet : g.N.NewDisk.faults l.disk ≡ g.N.NewDisk.faults l.fn.disk;
  read : (had : Option (List ℕ)) (front : File) (puts : List Put) (f : FileLayout)
      → IsBeforeBlocks (g.N.NewDisk.target l.fn.disk) had (g.S.Source.content l.fn.source) front puts f l.sectors l.entries → f.block ≡ l.block → table_end f ≡ l.from
      → g.N.NewDisk.holds l.fn.disk puts → IsAmong (g.N.NewDisk.target l.fn.disk) had (g.S.Source.content l.source) front (g.N.NewDisk.holds l.disk) f (drop l.entry-index l.entries) l.count;
}
