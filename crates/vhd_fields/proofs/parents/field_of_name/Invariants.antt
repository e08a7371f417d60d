use Rattle.std.proofs.Common.{◌≡◌, ◌-◌, ◌*◌, ◌++◌, replicate, take}
use Rattle.vhd_fields.specs.ParentNames.{utf16}
use Rattle.vhd_fields.proofs.parents.field_of_name.Given as goal

abbrev pub invariant-loop-unit : goal.invariant-loop-unit
invariant-loop-unit l = l.field ≡ utf16 (take l.unit l.text) ++ replicate (512 - 2 * l.unit) 0
