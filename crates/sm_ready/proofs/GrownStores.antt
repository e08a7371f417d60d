-- A store in which the image of one row, shown or hidden, got a greater size by its footers: its images are true, what a stop leaves
-- of it has the old size or the new one, and memory with the new size is ready once all lasts.
use Rattle.std.proofs.Common.{◌≡◌, ◌≢◌, inl, inr, ⊎_elim, ℕ, ◌*◌, List, length, Some, sym, ap, ◌∙◌, subst, subst₂}
use Rattle.std.proofs.lemmas.Option.{same_Some}
use Rattle.common_laws.specs.Lists.{In}
use Rattle.sm_base.specs.declared.names.Name.{Name}
use Rattle.sm_base.specs.declared.names.Name.TheVariants.{Mgt, Vhd, Cbt}
use Rattle.sm_disk.specs.Held.{Held, IsSettled, Keeps}
use Rattle.vg_meta.specs.Tables.{VolumeTable, extents_of, rows}
use Rattle.vg_volumes.specs.Sites.{Site, volume_of}
use Rattle.vg_volumes.specs.Stored.{WorksOn, held_in, sectors_in, stored}
use Rattle.vg_volumes.specs.Volumes.{KeepsElsewhere}
use Rattle.vg_volumes.specs.declared.stores.Store.{Ghosts}
use Rattle.vg_volumes.proofs.StoredLaws.{held_stays, size_stays}
use Rattle.vg_volumes.proofs.VolumeLaws.{IsSettled-volume, Keeps-volume}
use Rattle.vhd_layout.specs.Layouts.{Sectors}
use Rattle.vhd_volumes.specs.Steps.{Holds}
use Rattle.vhd_volumes.specs.Truth.{IsTrueIn, layout_in, layout_now}
use Rattle.vhd_image.specs.Bodies.{IfVhd, IfVhdDoes, ImageIsTrue, TrueIn, volume_name}
use Rattle.vhd_image.specs.Changes.{ChangesBy, IsResized, resized, with_size}
use Rattle.vhd_image.specs.Steady.{IsSteady}
use Rattle.vhd_image.specs.declared.images.Body.{Body}
use Rattle.vhd_image.specs.declared.images.Body.TheVariants as body
use Rattle.vhd_image.proofs.SteadyLaws.{steady_resized}
use Rattle.vhd_chain.specs.Trees.{row_name, tree_row, with_replaced}
use Rattle.vhd_chain.specs.declared.rows.TreeRow.{TreeRow}
use Rattle.sm_mgt.specs.Places.{records_held}
use Rattle.sm_ready.specs.Frames.{HasTrueImages}
use Rattle.sm_ready.specs.Known.{Known, known}
use Rattle.sm_ready.specs.Orderly.{IsOrderly}
use Rattle.sm_ready.specs.Ready.{IsBelow, IsReady}
use Rattle.sm_ready.specs.Stores.{content_now}
use Rattle.sm_ready.specs.declared.memory.Memory.{Memory}
use Rattle.sm_ready.proofs.ChainLaws.{tab}
use Rattle.sm_ready.proofs.FrameLaws.{KeepsVolume, not_mgt, true_turned, volume_stays, volume_then, volume_works}
use Rattle.sm_ready.proofs.GrownLaws.{IsGrowing, Resizes, growing}
use Rattle.sm_ready.proofs.LeftLaws.{IsLeft, IsVhdIn, size_there, vhd_in}
use Rattle.sm_ready.proofs.LogLaws.{holds_keeps, holds_ready}
use Rattle.sm_ready.proofs.LogRows.{name_apart}
use Rattle.sm_ready.proofs.Orders.{named_row}
use Rattle.sm_ready.proofs.RepairLaws.{all_quiet}
use Rattle.sm_ready.proofs.RestLaws.{agrees_keeps, steady_keeps, true_keeps}
use Rattle.sm_ready.proofs.RowLaws.{HasVolume, image_named, volume_there}
use Rattle.sm_ready.proofs.SizedRows.{rows_sized, sized, sized_name}
use Rattle.sm_ready.proofs.TakenLaws.{IsTold}
use Rattle.sm_ready.proofs.TruthLaws.{row_found}

-- memory is ready with the new size, where all lasts and the image has it
pub ready_sized : (s : Site) (t : VolumeTable) (m : Known) (old new : Held) (own : TreeRow) (size : ℕ) → IsOrderly s t m → In own m.rows → IsReady s t old m
    → ((n : Name) → n ≢ row_name own → Keeps (volume_of s t old n) (volume_of s t new n)) → IsSettled new
    → IsSteady s.geometry (own.extents * s.geometry.extent) (volume_of s t new (row_name own)) (resized size own.image) → IsBelow (content_now s t new) m.op
    → IsReady s t new (record m { rows = with_replaced (sized size own) m.rows })
ready_sized s t m old new own size o there ready kept settled steady below = record {
  firm = record {
    images = λ x j. ⊎_elim
        (λ was. steady_keeps s.geometry (x.extents * s.geometry.extent) (volume_of s t old (row_name x)) (volume_of s t new (row_name x)) x.image (kept (row_name x) was.1) (ready.firm.images x was.0))
        (λ is. subst (λ (q : TreeRow). IsSteady s.geometry (q.extents * s.geometry.extent) (volume_of s t new (row_name q)) q.image) (sym is)
        (subst (λ n. IsSteady s.geometry (own.extents * s.geometry.extent) (volume_of s t new n) (resized size own.image)) (sym (sized_name size own.image)) steady))
        (rows_sized s t m o own there size x j);
    quiet = λ x j _. all_quiet s t new settled (row_name x);
    below = below;
  };
  records = agrees_keeps (records_held s t old) (records_held s t new) m.places (kept Mgt (λ same. not_mgt s t m o own there (sym same))) ready.records;
  recorded = all_quiet s t new settled Mgt;
  logs = (holds_keeps (holds_ready s t old m o ready) new (λ u. kept (Cbt u) (name_apart (row_name own) (named_row s t m own o there) u))).logs;
  logged = λ u. all_quiet s t new settled (Cbt u);
}

module _ {S : Type 0} (g : Ghosts S) (a b : S) (m : Memory) (size : ℕ) (r : TreeRow) (o : IsOrderly (g.site a) (tab g a) (known m)) (there : In r m.tree.rows) (works : WorksOn g (row_name r) a b) where
  abbrev s : Site
  s = g.site a

  abbrev t : VolumeTable
  t = tab g a

  -- ---- images are true, behind a sync too

  module _ (e : S) (site : g.site e ≡ g.site b) (table : tab g e ≡ tab g b) (keeps : g.told → Keeps (g.area b) (g.area e)) (new : Body) (is : new ≡ resized size r.image)
      (truth : Holds g (row_name r) (λ x. TrueIn (g.site a).geometry (sectors_in (stored g a) (row_name r)) x new) b) where
    true_own : g.told → ImageIsTrue (stored g e) (sized size r).image
    true_own told =
        let now = subst (TrueIn s.geometry (sectors_in (stored g a) (row_name r)) (held_in (stored g b) (row_name r))) is (truth told) in
        let kept : KeepsVolume g b e r = volume_stays r site table (keeps told) in
        subst (λ n. TrueIn (g.site e).geometry (sectors_in (stored g e) n) (held_in (stored g e) n) (sized size r).image) (sym (sized_name size r.image))
        (subst₂ (λ (x : Site) k. TrueIn x.geometry k (held_in (stored g e) (row_name r)) (sized size r).image) (sym (site ∙ works.stays.site)) (sym (kept.size ∙ size_stays {g = g} (row_name r) works.stays))
        (true_keeps s.geometry (sectors_in (stored g a) (row_name r)) (held_in (stored g b) (row_name r)) (held_in (stored g e) (row_name r)) (sized size r).image kept.keeps now))

    pub true_sized : (n : Memory) → n.tree.rows ≡ with_replaced (sized size r) m.tree.rows → HasTrueImages g a m → HasTrueImages g e n
    true_sized n rows = true_turned g m n (site ∙ works.stays.site) (λ told each x i. ⊎_elim
        (λ was. inl (was.0, volume_then x (volume_works x o.table was.1 works told) (volume_stays x site table (keeps told))))
        (λ own. inr (subst (λ (q : TreeRow). ImageIsTrue (stored g e) q.image) (sym own) (true_own told)))
        (rows_sized s t (known m) o r there size x (subst (In x) rows i)))

  -- ---- what is told

  module _ (u : List ℕ) (named : row_name r ≡ Vhd u) (i : IsTold g a m) (changes : IfVhdDoes g r.image (λ head slots. ChangesBy (layout_now (stored g a) head) (IsResized (layout_now (stored g a) head) size)) a b) where
    v : HasVolume t (row_name r)
    v = volume_there s t (known m) r o (image_named (row_name r) (named_row s t (known m) r o there)) (row_found s t (known m) o r there)

    volume : rows t (Vhd u) ≡ Some v.row
    volume = ap (rows t) (sym named) ∙ v.there

    at : IsVhdIn s t (g.area a) (known m) u v.row
    at = vhd_in s t (g.area a) (known m) u v.row o i.ready.firm volume v.filled

    same_row : at.at.row ≡ r
    same_row = same_Some at.at.row r (sym at.at.found ∙ ap (tree_row m.tree.rows) (sym named) ∙ row_found s t (known m) o r there)

    image_is : r.image ≡ body.Vhd at.head at.slots
    image_is = ap (λ (q : TreeRow). q.image) (sym same_row) ∙ at.is

    volume_is : at.head.volume ≡ Vhd u
    volume_is = sym (ap volume_name image_is) ∙ named

    abbrev count : ℕ
    count = length v.row.extents * s.geometry.extent

    changed : ChangesBy (layout_in s.geometry at.head.footer count) (IsResized (layout_in s.geometry at.head.footer count) size) (volume_of s t (g.area a) (Vhd u)) (volume_of s t (g.area b) (Vhd u))
    changed =
        subst (λ x. ChangesBy (layout_in s.geometry at.head.footer count) (IsResized (layout_in s.geometry at.head.footer count) size) (volume_of s t (g.area a) (Vhd u)) x) (held_stays {g = g} (Vhd u) works.stays)
        (subst (λ k. ChangesBy (layout_in s.geometry at.head.footer k) (IsResized (layout_in s.geometry at.head.footer k) size) (held_in (stored g a) (Vhd u)) (held_in (stored g b) (Vhd u))) (size_there s t (Vhd u) v.row volume)
        (subst (λ n. ChangesBy (layout_in s.geometry at.head.footer (sectors_in (stored g a) n)) (IsResized (layout_in s.geometry at.head.footer (sectors_in (stored g a) n)) size) (held_in (stored g a) n) (held_in (stored g b) n)) volume_is
        (subst (λ x. IfVhd x (λ head slots. ChangesBy (layout_now (stored g a) head) (IsResized (layout_now (stored g a) head) size) (held_in (stored g a) head.volume) (held_in (stored g b) head.volume))) image_is (changes i.told))))

    resizes : Resizes s t (known m) (g.area a) (g.area b) u v.row size
    resizes = record {
      orderly = o;
      ready = i.ready;
      there = volume;
      at = at;
      keeps = subst (λ n. KeepsElsewhere s.geometry.extent (extents_of (rows t n)) (g.area a) (g.area b)) named (works.elsewhere i.told);
      changes = changed;
    }

    -- its image is steady once all lasts
    pub steady_sized : (rest : Held) → Keeps (g.area b) rest → IsSettled rest → (new : Body) → new ≡ resized size r.image → Holds g (row_name r) (λ x. TrueIn (g.site a).geometry (sectors_in (stored g a) (row_name r)) x new) b
        → IsSteady (g.site a).geometry (r.extents * (g.site a).geometry.extent) (volume_of (g.site a) (tab g a) rest (row_name r)) (resized size r.image)
    steady_sized rest keeps settled new is truth =
        let long : length v.row.extents ≡ r.extents = sym at.at.long ∙ ap (λ (q : TreeRow). q.extents) same_row in
        subst (λ n. IsSteady s.geometry (r.extents * s.geometry.extent) (volume_of s t rest n) (resized size r.image)) (sym named)
        (subst (λ x. IsSteady s.geometry (r.extents * s.geometry.extent) (volume_of s t rest (Vhd u)) (resized size x)) (sym image_is)
        (subst (λ k. IsSteady s.geometry (k * s.geometry.extent) (volume_of s t rest (Vhd u)) (body.Vhd (with_size at.head size) at.slots)) long
        (steady_resized s.geometry count at.head at.slots (volume_of s t (g.area a) (Vhd u)) (volume_of s t (g.area b) (Vhd u)) (volume_of s t rest (Vhd u)) (Keeps-volume s.geometry.extent (extents_of (rows t (Vhd u))) keeps)
        (IsSettled-volume s.geometry.extent (extents_of (rows t (Vhd u))) rest settled) at.steady size changed truth_here)))
      where
        truth_here : IsTrueIn s.geometry count (volume_of s t (g.area b) (Vhd u)) (with_size at.head size) at.slots
        truth_here =
            subst (λ x. TrueIn s.geometry count (volume_of s t (g.area b) (Vhd u)) (resized size x)) image_is
            (subst (λ x. TrueIn s.geometry count x (resized size r.image)) (held_stays {g = g} (Vhd u) works.stays)
            (subst (λ k. TrueIn s.geometry k (held_in (stored g b) (Vhd u)) (resized size r.image)) (size_there s t (Vhd u) v.row volume)
            (subst (λ n. TrueIn s.geometry (sectors_in (stored g a) n) (held_in (stored g b) n) (resized size r.image)) named
            (subst (TrueIn s.geometry (sectors_in (stored g a) (row_name r)) (held_in (stored g b) (row_name r))) is (truth i.told)))))

    -- what a stop leaves of it
    pub grows : (image : Sectors) → IsLeft (g.site a) (g.area b) image → IsGrowing (g.site a) (tab g a) (known m) (g.area a) u r size image
    unfolding resizes
    grows image left = subst (λ q. IsGrowing s t (known m) (g.area a) u q size image) same_row (growing s t (known m) (g.area a) (g.area b) u v.row size resizes image left)
