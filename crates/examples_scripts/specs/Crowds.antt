-- A repository that has as many images as it may have.
use Rattle.std.specs.Prelude.{[], ◌∷◌, None, false, codes, replicate}
use Rattle.sm_base.specs.declared.names.Name.TheVariants.{Raw}
use Rattle.sm_machine.specs.Steps.{State}
use Rattle.examples_scripts.specs.Scripts.{Script, line}

-- the repository with 500 images in place of its own; a refusal only counts them
abbrev pub crowded_from : State → State
crowded_from σ = record {
  disks = σ.disks;
  shape = record σ.shape {
    images = replicate 500 (record { name = Raw (replicate 16 17); hidden = false; parent = None; size = 8; slots = []; extents = 1 });
  };
}

-- one more is too many
abbrev pub crowded : Script
crowded =
    line (codes "create 33333333-3333-4333-8333-333333333333 4096 raw x") (codes "no TooMany have 500 need 1") ∷
    []
