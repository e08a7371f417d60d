use Rattle.std.proofs.Common.{◌≡◌, ◌+◌, ◌-◌, None, Some, drop, find, length, position, sym, ap, ◌∙◌, arith, rules}
use Rattle.std.specs.Option.{option_copied}
use Rattle.std.proofs.lemmas.List.{length-drop, take_all}
use Rattle.sm_standing.specs.Entries.{is_making}
use Rattle.vg_meta.specs.Roomy.{RoomyRow}
use Rattle.sm_checks.proofs.CheckLaws.{second_behind, second_none}
use Rattle.sm_checks.proofs.entries.second_making.Goals as goal

pub returns-in_err-first : goal.returns-in_err-first
returns-in_err-first c =
    let none : position (λ (v : RoomyRow). is_making v.row.name) c.args.volumes.now ≡ None = search rules in
    let given : c.from_residual.result ≡ None = search rules in
    ap option_copied given ∙ sym (second_none (λ (v : RoomyRow). is_making v.row.name) c.args.volumes.now none)

pub returns : goal.returns
returns c =
    let place : position (λ (v : RoomyRow). is_making v.row.name) c.args.volumes.now ≡ Some c.in_ok-first.first = search rules in
    let n = c.in_ok-first.first + 1 in
    let all = take_all (length c.args.volumes.now - n) (drop n c.args.volumes.now) (omega (arith, length-drop n c.args.volumes.now)) in
    c.first_making.ensures ∙ ap (find (λ (v : RoomyRow). is_making v.row.name)) all ∙ second_behind (λ (v : RoomyRow). is_making v.row.name) c.args.volumes.now c.in_ok-first.first place
