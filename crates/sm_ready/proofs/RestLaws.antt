-- What is ready stays so once all is settled, also under another table that keeps the extents of each row.
use Rattle.std.proofs.Common.{◌≡◌, ℕ, ◌*◌, List, Option, refl, sym, ap, ◌∙◌, subst}
use Rattle.std.proofs.Math.Path.{fun_ext}
use Rattle.sm_base.specs.declared.sizes.Geometry.{Geometry}
use Rattle.sm_base.specs.declared.names.Name.{Name}
use Rattle.sm_base.specs.declared.names.Name.TheVariants.{Mgt, Cbt}
use Rattle.sm_disk.specs.Held.{Held, Keeps, May, reads}
use Rattle.sm_disk.proofs.HeldLaws.{May-reads, may_settled, Allows-keeps}
use Rattle.vg_meta.specs.Tables.{VolumeTable, rows, extents_of}
use Rattle.vg_volumes.specs.Sites.{Site, volume_of}
use Rattle.vg_volumes.specs.Volumes.{volume}
use Rattle.vhd_layout.specs.Images.{IsImage}
use Rattle.vhd_layout.specs.Layouts.{Sectors}
use Rattle.vhd_map.specs.Slots.{slot_of}
use Rattle.vhd_volumes.specs.declared.heads.Head.{Head}
use Rattle.vhd_volumes.specs.Truth.{layout_in}
use Rattle.vg_volumes.proofs.VolumeLaws.{Keeps-volume}
use Rattle.common_laws.specs.Lists.{In}
use Rattle.sm_record.specs.Records.{reading}
use Rattle.sm_record.specs.declared.records.Record.{Record}
use Rattle.vhd_image.specs.declared.images.Body.{Body}
use Rattle.sm_standing.specs.Logs.{IsLogged}
use Rattle.sm_ready.specs.Done.{at_rest}
use Rattle.sm_ready.specs.Known.{Known}
use Rattle.vhd_chain.specs.declared.rows.TreeRow.{TreeRow}
use Rattle.vhd_chain.specs.Trees.{row_name}
use Rattle.sm_mgt.specs.Places.{Agrees, records_held}
use Rattle.sm_ready.specs.Ready.{IsReady, IsBelow}
use Rattle.vhd_image.specs.Bodies.{TrueIn}
use Rattle.vhd_image.specs.Steady.{IsSteady}
use Rattle.vhd_volumes.specs.Truth.{IsTrueIn}
use Rattle.vhd_volumes.specs.Steady.{IsSteadyIn, IsQuiet}
use Rattle.sm_ready.specs.Stores.{content_now}
use Rattle.vhd_image.specs.declared.images.Body.TheVariants as body

pub keeps_rest : (h : Held) → Keeps h (at_rest (reads h))
keeps_rest h = record {
  reads = λ p. refl;
  may = λ p v m. subst (λ w. May h p w) (sym (may_settled (at_rest (reads h)) p v refl m)) (May-reads h p);
}

true_in : (g : Geometry) (n : ℕ) (a b : Held) (head : Head) (m : List (Option ℕ)) → Keeps a b → IsTrueIn g n a head m → IsTrueIn g n b head m
true_in g n a b head m keeps is_true =
    let same : (λ p. reads b p) ≡ (λ p. reads a p) = fun_ext keeps.reads in
    record {
      now = subst (λ (v : Sectors). IsImage (layout_in g head.footer n) v head.footer head.header (slot_of m)) (sym same) is_true.now;
      valid = λ v allows. is_true.valid v (Allows-keeps n v keeps allows);
      within = λ v allows. is_true.within v (Allows-keeps n v keeps allows);
    }

-- an image stays true where its volume keeps what it holds
pub true_keeps : (g : Geometry) (n : ℕ) (a b : Held) (x : Body) → Keeps a b → TrueIn g n a x → TrueIn g n b x
true_keeps g n a b (body.Raw volume size) keeps is_true = tt
true_keeps g n a b (body.Vhd head m) keeps is_true = true_in g n a b head m keeps is_true

steady_in : (g : Geometry) (n : ℕ) (a b : Held) (head : Head) (m : List (Option ℕ)) → Keeps a b → IsSteadyIn g n a head m → IsSteadyIn g n b head m
steady_in g n a b head m keeps steady = record {
  is_true = true_in g n a b head m keeps steady.is_true;
  still = λ p v here may. steady.still p v here (keeps.may p v may) ∙ sym (keeps.reads p);
  holding = λ v allows. steady.holding v (Allows-keeps n v keeps allows);
}

pub steady_keeps : (g : Geometry) (n : ℕ) (a b : Held) (x : Body) → Keeps a b → IsSteady g n a x → IsSteady g n b x
steady_keeps g n a b (body.Raw volume size) keeps steady = steady
steady_keeps g n a b (body.Vhd head m) keeps steady = steady_in g n a b head m keeps steady

pub agrees_keeps : (a b : Held) (places : List (Option Record)) → Keeps a b → Agrees a places → Agrees b places
agrees_keeps a b places keeps agrees = record { long = agrees.long; each = λ k o there. ap reading (keeps.reads k) ∙ agrees.each k o there }

-- a row of memory afterwards is one of memory before, with its extents
pub record IsOfRow (t u : VolumeTable) (m : Known) (r : TreeRow) : Type 0 where
  pub row : TreeRow
  pub there : In row m.rows
  pub image : r.image ≡ row.image
  pub extents : r.extents ≡ row.extents
  pub same : extents_of (rows u (row_name r)) ≡ extents_of (rows t (row_name row))

pub ready_rest : (s : Site) (t u : VolumeTable) (old : Held) (m m' : Known) → IsReady s t old m → ((r : TreeRow) → In r m'.rows → IsOfRow t u m r)
    → extents_of (rows u Mgt) ≡ extents_of (rows t Mgt) → m'.places ≡ m.places → IsLogged (content_now s u (at_rest (reads old))) m'.logs → ((n : Name) → IsQuiet (volume_of s u (at_rest (reads old)) n))
    → IsBelow (content_now s u (at_rest (reads old))) m'.op → IsReady s u (at_rest (reads old)) m'
ready_rest s t u old m m' ready from mgt places logs quiet below = record {
  firm = record { images = λ r i. steady r (from r i); quiet = λ r i _. quiet (row_name r); below = below };
  records = subst (λ p. Agrees (records_held s u (at_rest (reads old))) p) (sym places)
      (subst (λ es. Agrees (volume s.geometry.extent es (at_rest (reads old))) m.places) (sym mgt)
      (agrees_keeps (records_held s t old) (volume s.geometry.extent (extents_of (rows t Mgt)) (at_rest (reads old))) m.places (Keeps-volume s.geometry.extent (extents_of (rows t Mgt)) (keeps_rest old)) ready.records));
  recorded = quiet Mgt;
  logs = logs;
  logged = λ v. quiet (Cbt v);
}
  where
    steady : (r : TreeRow) → IsOfRow t u m r → IsSteady s.geometry (r.extents * s.geometry.extent) (volume_of s u (at_rest (reads old)) (row_name r)) r.image
    steady r w =
        let es = extents_of (rows t (row_name w.row)) in
        let was = steady_keeps s.geometry (w.row.extents * s.geometry.extent) (volume_of s t old (row_name w.row)) (volume s.geometry.extent es (at_rest (reads old))) w.row.image
        (Keeps-volume s.geometry.extent es (keeps_rest old)) (ready.firm.images w.row w.there) in
        subst (λ x. IsSteady s.geometry (r.extents * s.geometry.extent) (volume_of s u (at_rest (reads old)) (row_name r)) x) (sym w.image)
        (subst (λ k. IsSteady s.geometry (k * s.geometry.extent) (volume_of s u (at_rest (reads old)) (row_name r)) w.row.image) (sym w.extents)
        (subst (λ fs. IsSteady s.geometry (w.row.extents * s.geometry.extent) (volume s.geometry.extent fs (at_rest (reads old))) w.row.image) (sym w.same) was))
