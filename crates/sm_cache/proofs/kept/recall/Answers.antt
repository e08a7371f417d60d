use Rattle.std.proofs.Common.{◌≡◌, Some, ◌∙◌, rules}
use Rattle.std.specs.Map.{lookup}
use Rattle.sm_cache.specs.Kept.{same_spot, spot_of}
use Rattle.sm_cache.proofs.EntryLaws.{front_promoted}
use Rattle.sm_cache.proofs.kept.recall.Goals as goal

pub returns-clause-found : goal.returns-clause-found
unfolding same_spot
returns-clause-found c = λ _.
    let found : lookup (same_spot (spot_of c.args.volume.now c.args.at)) c.args.kept.now.entries ≡ Some c.copy_from_slice.new.self = search rules in (
      record { one = c.requires; there = found },
      c.promote.ensures.entries ∙ front_promoted c.args.kept.now c.args.volume.now c.args.at c.copy_from_slice.new.self c.len-len.ensures.valid.0 found,
    )
