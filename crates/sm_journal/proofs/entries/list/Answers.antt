use Rattle.std.proofs.Common.{List, find, ap, sym, ◌∙◌}
use Rattle.std.specs.Option.{option_map}
use Rattle.vg_meta.specs.Tables.{names_of}
use Rattle.vg_meta.specs.Roomy.{RoomyRow, rows_alone}
use Rattle.sm_journal.specs.Entries.{is_operation, is_call, has_more}
use Rattle.sm_journal.proofs.EntryLaws.{found_name}
use Rattle.sm_journal.proofs.entries.list.Goals as goal

pub returns-clause-first : goal.returns-clause-first
returns-clause-first c =
    c.name_of.ensures
    ∙ ap (option_map (λ (h : RoomyRow). h.row.name)) (c.find_operation.ensures ∙ ap (find (λ (h : RoomyRow). is_operation h.row.name)) c.volumes-volumes.ensures.volumes)
    ∙ sym (found_name is_operation c.args.table.now.rows)

pub returns-clause-second : goal.returns-clause-second
returns-clause-second c =
    c.name_of-2.ensures
    ∙ ap (option_map (λ (h : RoomyRow). h.row.name)) (c.find_call.ensures ∙ ap (find (λ (h : RoomyRow). is_call h.row.name)) c.volumes-volumes.ensures.volumes)
    ∙ sym (found_name is_call c.args.table.now.rows)

pub returns-clause-more : goal.returns-clause-more
returns-clause-more c = c.has_two.ensures ∙ ap (λ (hs : List RoomyRow). has_more (names_of (rows_alone hs))) c.volumes-volumes.ensures.volumes
