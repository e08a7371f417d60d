use Rattle.std.proofs.Common.{◌≡◌, None, sym, ◌∙◌}
use Rattle.sm_standing.specs.Checks.{record_volume_fault, too_many_fault, misnamed_fault, second_entry_fault, lost_entry_fault}
use Rattle.sm_checks.proofs.CheckLaws.{last_of}
use Rattle.sm_checks.proofs.checks.table_fault.Goals as goal

pub returns : goal.returns
returns c = λ seen is.
    let first : record_volume_fault seen ≡ None = sym (c.in_default.ensures seen is) in
    let second : too_many_fault seen ≡ None = sym (c.in_default-too_many_fault.ensures seen is.table) in
    let third : misnamed_fault seen ≡ None = sym (c.in_default-misnamed_fault.ensures seen is.table) in
    let fourth : second_entry_fault seen ≡ None = sym (c.in_default-second_fault.ensures seen is.table) in
    let fifth : lost_entry_fault seen ≡ None = sym (c.in_default-lost_fault.ensures seen is.table) in
    c.old_fault.ensures seen is.table fourth ∙ sym (last_of _ first second third fourth fifth)
