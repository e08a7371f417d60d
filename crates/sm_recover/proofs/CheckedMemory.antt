-- Memory at the end of the checks: the rows are those beside the table in which nothing is under way, and what a content holds well is
-- held by the content that is left.
use Rattle.std.proofs.Common.{◌≡◌, List, length, Option, None, sym, ap, ◌∙◌, subst}
use Rattle.sm_disk.specs.Held.{Held}
use Rattle.vg_meta.specs.Tables.{VolumeTable, extents_of}
use Rattle.vg_volumes.specs.Sites.{Site}
use Rattle.vg_volumes.specs.Volumes.{volume}
use Rattle.vg_volumes.specs.declared.stores.Store.{Ghosts}
use Rattle.sm_record.specs.declared.records.Record.{Record}
use Rattle.sm_mgt.specs.Places.{Agrees, place_count, records_held}
use Rattle.sm_standing.specs.Checks.{fault_of, first_fault}
use Rattle.sm_standing.specs.Keeping.{HasNoEmptySlot, HoldsWell}
use Rattle.sm_standing.specs.Outlines.{Outline}
use Rattle.sm_standing.specs.Contents.{Content}
use Rattle.sm_standing.specs.Opened.{ended}
use Rattle.sm_standing.specs.Plain.{IsKnown}
use Rattle.sm_standing.specs.Unfolded.{unfolded, unfolded_content}
use Rattle.sm_standing.proofs.LeafContents.{left_at_last}
use Rattle.sm_standing.proofs.PlainKept.{known_but_leaf, but_leaf_known}
use Rattle.sm_standing.proofs.UnfoldedButLeaf.{unfolded_holding}
use Rattle.vhd_chain.specs.declared.rows.TreeRow.{TreeRow}
use Rattle.sm_ready.specs.Stores.{content_now}
use Rattle.sm_recover.specs.Backs.{rows_back}
use Rattle.sm_recover.specs.Ending.{rows_ended, unleafed}
use Rattle.sm_recover.specs.Repairs.{HasFewLogs}
use Rattle.sm_checks.specs.Faults.{HasLinks, HasPlaces, HasTable}
use Rattle.sm_checks.specs.Loaded.{AreRowsOf, HasEachRow, read_volumes, shortened, stored_with}
use Rattle.sm_checks.specs.Openable.{IsOpenable}
use Rattle.sm_recover.proofs.EndedForks.{ends_back, records_same}
use Rattle.sm_recover.proofs.EndedMemory as memory
use Rattle.sm_recover.proofs.EndedThen.{as_was, is_then, of_leaf}
use Rattle.sm_recover.proofs.UnfoldedMemory.{records_bare}

-- once the entry of a copy or a link is gone too
bare_holding : (x : Content) → first_fault x ≡ None → IsKnown x.table → HasNoEmptySlot x → HasNoEmptySlot (unfolded_content x)
bare_holding x sound known holding = unfolded_holding x (but_leaf_known x (known_but_leaf x sound known)) holding

module _ {S : Type 0} (g : Ghosts S) (store : S) (xs : List TreeRow) (places : List (Option Record)) {t : VolumeTable} (c : IsOpenable (g.site store) t) (few : HasFewLogs t) (are : AreRowsOf (read_volumes t) xs)
    (each : HasEachRow g.told (stored_with g store (shortened t)) (read_volumes t) xs) (long : length places ≡ place_count)
    (pass : (x : Outline) → HasTable (g.site store).geometry t x → HasLinks xs x → HasPlaces places x → fault_of x ≡ None) where
  -- the rows, as they come about
  pub back_is : {mid last : List TreeRow} → mid ≡ rows_ended t xs → last ≡ rows_back t mid → last ≡ rows_back (unleafed t) (rows_ended t xs)
  back_is {mid} {last} ended back = back ∙ ap (rows_back t) ended ∙ sym (ends_back g store xs places c few are each long pass (rows_ended t xs))

  abbrev s : Site
  s = g.site store

  abbrev area : Held
  area = g.area store

  -- no slot of an image holds nothing
  pub holding_then : first_fault (content_now s t area) ≡ None → HoldsWell (content_now s t area) → HasNoEmptySlot (content_now s (unfolded (unleafed t)) area)
  holding_then sound well =
      let known = (is_then g store xs places c few are each long pass).checked.known in
      of_leaf g store xs places c few are each long pass (HasNoEmptySlot (content_now s (unfolded (unleafed t)) area))
      (λ l p found.
      let is = memory.unleafed_is g store xs places c are each long pass l p found in
      let left = left_at_last (content_now s t area) sound c.table s.geometry.in_range l p (memory.one g store xs places c are each long pass l p found) in
      subst (λ v. HasNoEmptySlot (content_now s (unfolded v) area)) (sym is)
      (bare_holding (content_now s (ended t) area) left.sound (subst IsKnown is known) (left.holding well.holding)))
      (λ other.
      let is = as_was g store xs places c few are each long pass other in
      subst (λ v. HasNoEmptySlot (content_now s (unfolded v) area)) (sym is) (bare_holding (content_now s t area) sound (subst IsKnown is known) well.holding))

  -- the records are those of the volume of records still
  pub agrees_then : Agrees (records_held s t area) places → Agrees (records_held s (unfolded (unleafed t)) area) places
  agrees_then =
      let th = is_then g store xs places c few are each long pass in
      let same = records_bare g store (rows_ended t xs) places th.checked th.are th.each long th.pass ∙ records_same g store xs places c few are each long pass in
      subst (λ o. Agrees (volume s.geometry.extent (extents_of o) area) places) (sym same)
