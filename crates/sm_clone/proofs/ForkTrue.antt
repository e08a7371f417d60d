-- The images in memory are true once a fork is made: the base and the others in volumes that kept what they hold, and the two over it
-- in those that were written.
use Rattle.std.proofs.Common.{◌≡◌, ◌≢◌, ◌⊎◌, ⊎_elim, inl, inr, ℕ, ◌+◌, false, Bool, List, length, replicate, Some, None, refl, sym, ap, ap₂, ◌∙◌, subst, subst₂, arith}
use Rattle.std.proofs.lemmas.Bool.{true≢false}
use Rattle.std.proofs.lemmas.Option.{none-some}
use Rattle.common_laws.specs.Lists.{In}
use Rattle.sm_base.specs.Names.{IsUuid, base_uuid}
use Rattle.sm_base.specs.declared.names.Name.{Name}
use Rattle.sm_base.specs.declared.names.Name.TheVariants as name
use Rattle.sm_base.specs.declared.sizes.Geometry.{Geometry}
use Rattle.sm_disk.specs.Held.{Held, Keeps, reads}
use Rattle.sm_disk.proofs.HeldLaws.{Keeps-then}
use Rattle.vg_meta.specs.Tables.{VolumeTable, extents_of, rows}
use Rattle.vg_volumes.specs.Sites.{Site, size_of, volume_of}
use Rattle.vg_volumes.specs.Stored.{Stored, stored}
use Rattle.vg_volumes.specs.Volumes.{span, volume}
use Rattle.vg_volumes.specs.declared.stores.Store.{Ghosts}
use Rattle.vg_volumes.proofs.VolumeLaws.{Keeps-volume}
use Rattle.vhd_image.specs.Bodies.{ImageIsTrue, TrueIn, in_volume}
use Rattle.vhd_image.specs.declared.images.Body.{Body}
use Rattle.vhd_image.specs.declared.images.Body.TheVariants.{Raw, Vhd}
use Rattle.vhd_image.proofs.SteadyLaws.{body_true}
use Rattle.vhd_volumes.specs.Steady.{IsSteadyIn}
use Rattle.vhd_chain.specs.Trees.{row_name, tree_row}
use Rattle.vhd_chain.specs.declared.rows.TreeRow.{TreeRow}
use Rattle.sm_machine.specs.WellFormed.{is_image_name}
use Rattle.sm_record.specs.declared.records.Record.{Record}
use Rattle.sm_ready.specs.Done.{at_rest}
use Rattle.sm_ready.specs.Frames.{HasTrueImages}
use Rattle.sm_ready.specs.Known.{known, shape_in}
use Rattle.sm_ready.specs.Sessions.{IsOrderlyStore, IsTidyStore}
use Rattle.sm_ready.specs.declared.memory.Memory.{Memory}
use Rattle.sm_ready.proofs.ChainLaws.{tab}
use Rattle.sm_ready.proofs.FrameLaws.{KeepsVolume, not_mgt, true_turned}
use Rattle.sm_ready.proofs.MadeLaws.{steady_new}
use Rattle.sm_ready.proofs.Orders.{named_row}
use Rattle.sm_ready.proofs.RestLaws.{keeps_rest, true_keeps}
use Rattle.sm_ready.proofs.ShapeLaws.{mgt_image}
use Rattle.sm_ready.proofs.TruthLaws.{row_found}
use Rattle.sm_calls.specs.Calls.{DoesRun}
use Rattle.sm_space.proofs.OwnLaws.{named_or_not}
use Rattle.sm_clone.specs.Forking.{AreForFork, IsMade, Passes, base_body, base_name, child_head, entry_name, fork_calls, fork_of, own_uid, table_begun, table_forked, twin_uid}
use Rattle.sm_clone.specs.declared.forks.Fork.{Fork}
use Rattle.sm_clone.proofs.ForkRows.{base_image, base_named, base_not_leaf, base_not_twin, by_row, no_base_then, no_leaf_row, no_twin_row}
use Rattle.sm_clone.proofs.PassedLaws.{own, own_is}
use Rattle.sm_clone.proofs.ShapeLaws.{rows_then}
use Rattle.sm_clone.proofs.TableLaws.{hidden_row, own_there, stage_5, stage_8}

-- an image is as true of a volume under another name
true_under : (g : Geometry) (n : ℕ) (h : Held) (to : Name) (b : Body) → TrueIn g n h b → TrueIn g n h (in_volume to b)
true_under g n h to (Raw volume size) was = tt
true_under g n h to (Vhd head m) was = record { now = was.now; valid = was.valid; within = was.within }

entry_no_image : (d b w : List ℕ) → is_image_name (name.Clone d b w) ≡ false
unfolding is_image_name
entry_no_image d b w = refl

module _ {S : Type 0} {g : Ghosts S} {a e : S} (m : Memory) (u twin : List ℕ) (read_only : Bool) (o : IsOrderlyStore g a m) (tidy : IsTidyStore g a m)
    (passes : Passes (g.site a) (tab g a) (known m) u twin read_only)
    (sectors : ℕ) (own_es twins : List ℕ) (taken : AreForFork (g.site a) (tab g a) (shape_in (g.site a) (tab g a) (known m)) u sectors own_es twins) (proper : IsUuid twin)
    (now : ℕ) (image : Body) (k : ℕ) (entry : Record)
    (run : DoesRun g (fork_calls (g.site a) (tab g a) (fork_of passes.number m.tree.rows u twin) own_es twins now image k entry) a e (Unit {0})) where
  abbrev s : Site
  s = g.site a

  abbrev t : VolumeTable
  t = tab g a

  abbrev f : Fork
  f = fork_of passes.number m.tree.rows u twin

  abbrev extent : ℕ
  extent = s.geometry.extent

  abbrev row : TreeRow
  row = (own s t (known m) u twin read_only o tidy passes).row

  row_there : In row m.tree.rows
  row_there = (own s t (known m) u twin read_only o tidy passes).there

  abbrev rest : Held
  rest = at_rest (reads (g.area a))

  abbrev begun : VolumeTable
  begun = table_begun t f own_es twins

  -- what it holds then
  area_end : (told : g.told) → g.area e ≡ at_rest (reads (run.ran tt told).0)
  area_end told = ap (λ (x : Stored). x.area) (run.ran tt told).3

  -- ---- a volume that keeps what it holds

  kept_over : (n : Name) (es : List ℕ) → extents_of (rows begun n) ≡ es → n ≢ name.Vhd u → n ≢ name.Vhd twin → n ≢ name.Mgt → g.told → Keeps (volume extent es (g.area a)) (volume extent es (g.area e))
  kept_over n es at not_leaf not_twin not_records told =
      let ran = run.ran tt told in
      Keeps-then (Keeps-volume extent es (keeps_rest (g.area a)))
      (Keeps-then (subst (λ (fs : List ℕ). Keeps (volume extent fs rest) (volume extent fs ran.0)) at (ran.1.others n not_leaf not_twin not_records))
      (subst (λ (h : Held). Keeps (volume extent es ran.0) (volume extent es h)) (sym (area_end told)) (Keeps-volume extent es (keeps_rest ran.0))))

  -- that of another image
  module _ (r : TreeRow) (i : In r m.tree.rows) (away : row_name r ≢ f.own) where
    found : tree_row m.tree.rows (row_name r) ≡ Some r
    found = row_found s t (known m) o r i

    not_base : row_name r ≢ base_name f
    not_base is = none-some r (sym (no_base_then s t (known m) u twin read_only o tidy passes) ∙ ap (tree_row m.tree.rows) (sym is) ∙ found)

    not_leaf : row_name r ≢ name.Vhd u
    not_leaf is = ⊎_elim (λ leaf. away (is ∙ sym leaf))
        (λ raw. none-some r (sym (no_leaf_row s t (known m) u twin read_only o tidy passes raw) ∙ ap (tree_row m.tree.rows) (sym is) ∙ found)) (named_or_not f.own (name.Vhd u))

    not_twin : row_name r ≢ name.Vhd twin
    not_twin is = none-some r (sym (no_twin_row s t (known m) u twin read_only o tidy passes) ∙ ap (tree_row m.tree.rows) (sym is) ∙ found)

    not_entry : row_name r ≢ entry_name f
    not_entry is = true≢false (sym (named_row s t (known m) r o i) ∙ ap is_image_name is ∙ entry_no_image f.disk f.base f.twin)

    other_kept : g.told → KeepsVolume g a e r
    other_kept told =
        let at_b = ap extents_of ((stage_5 s t (known m) u twin read_only o tidy passes sectors own_es twins taken proper).others (row_name r) away not_base not_leaf not_twin not_entry) in
        let at_e = ap (λ v. extents_of (rows v (row_name r))) (run.table tt)
        ∙ ap extents_of ((stage_8 s t (known m) u twin read_only o tidy passes sectors own_es twins taken proper).others (row_name r) away not_base not_leaf not_twin not_entry) in
        record {
          size = ap₂ (λ (x : Site) (fs : List ℕ). span x.geometry.extent fs) run.site at_e;
          keeps = subst₂ (λ (x : Site) (fs : List ℕ). Keeps (volume extent (extents_of (rows t (row_name r))) (g.area a)) (volume x.geometry.extent fs (g.area e))) (sym run.site) (sym at_e)
              (kept_over (row_name r) (extents_of (rows t (row_name r))) at_b not_leaf not_twin (not_mgt s t (known m) o r i) told);
        }

  -- ---- that of the base

  abbrev had : List ℕ
  had = extents_of (rows t f.own)

  base_at : (v : VolumeTable) → rows v (base_name f) ≡ Some (hidden_row s t (known m) u twin read_only o tidy passes sectors own_es twins taken proper) → extents_of (rows v (base_name f)) ≡ had
  base_at v is = ap extents_of is ∙ sym (ap extents_of (own_there s t (known m) u twin read_only o tidy passes sectors own_es twins taken proper))

  base_true : g.told → ImageIsTrue (stored g a) row.image → ImageIsTrue (stored g e) (base_body f row.image)
  base_true told was =
      let at_b = base_at begun (stage_5 s t (known m) u twin read_only o tidy passes sectors own_es twins taken proper).base in
      let at_e = ap (λ v. extents_of (rows v (base_name f))) (run.table tt) ∙ base_at (table_forked t f own_es twins) (stage_8 s t (known m) u twin read_only o tidy passes sectors own_es twins taken proper).base in
      subst (λ (n : Name). TrueIn (g.site e).geometry (size_of (g.site e) (tab g e) n) (volume_of (g.site e) (tab g e) (g.area e) n) (base_body f row.image)) (sym (base_named s t (known m) u twin read_only o tidy passes))
      (subst₂ (λ (x : Site) (fs : List ℕ). TrueIn x.geometry (span x.geometry.extent fs) (volume x.geometry.extent fs (g.area e)) (base_body f row.image)) (sym run.site) (sym at_e)
      (true_under s.geometry (span extent had) (volume extent had (g.area e)) (base_name f) row.image
      (true_keeps s.geometry (span extent had) (volume extent had (g.area a)) (volume extent had (g.area e)) row.image
      (kept_over (base_name f) had at_b (base_not_leaf s t (known m) u twin read_only o tidy passes) (base_not_twin s t (known m) u twin read_only o tidy passes)
      (λ is. true≢false (sym (base_image s t (known m) u twin read_only o tidy passes) ∙ ap is_image_name is ∙ mgt_image)) told)
      (subst (λ (n : Name). TrueIn s.geometry (size_of s t n) (volume_of s t (g.area a) n) row.image) (sym (own_is s t (known m) u twin read_only o tidy passes)) was))))

  -- ---- those that were written

  made_true : (v es uid : List ℕ) (area : Held) → extents_of (rows begun (name.Vhd v)) ≡ es → extents_of (rows (tab g e) (name.Vhd v)) ≡ es → g.area e ≡ at_rest (reads area)
      → IsMade s begun area (child_head s.geometry v now uid image) → ImageIsTrue (stored g e) (Vhd (child_head s.geometry v now uid image) (replicate s.geometry.entries None))
  made_true v es uid area at_b at_e held is =
      subst₂ (λ (x : Site) (fs : List ℕ). TrueIn x.geometry (span x.geometry.extent fs) (volume x.geometry.extent fs (g.area e)) (Vhd (child_head s.geometry v now uid image) (replicate s.geometry.entries None)))
      (sym run.site) (sym at_e)
      (subst (λ (h : Held). TrueIn s.geometry (span extent es) (volume extent es h) (Vhd (child_head s.geometry v now uid image) (replicate s.geometry.entries None))) (sym held)
      (body_true s.geometry (span extent es) (volume extent es (at_rest (reads area))) (Vhd (child_head s.geometry v now uid image) (replicate s.geometry.entries None))
      (subst (λ (fs : List ℕ). IsSteadyIn s.geometry (span extent fs) (volume extent fs (at_rest (reads area))) (child_head s.geometry v now uid image) (replicate s.geometry.entries None)) at_b
      (steady_new s begun area (size_of s begun (name.Vhd v)) (child_head s.geometry v now uid image) (name.Vhd v) is))))

  -- the table's number at the writes
  number : begun.sequence ≡ t.sequence + 5
  number = (stage_5 s t (known m) u twin read_only o tidy passes sectors own_es twins taken proper).number

  leaf_true : g.told → ImageIsTrue (stored g e) (Vhd (child_head s.geometry u now (own_uid t) image) (replicate s.geometry.entries None))
  leaf_true told =
      let ran = run.ran tt told in
      made_true u own_es (own_uid t) ran.0 (ap extents_of (stage_5 s t (known m) u twin read_only o tidy passes sectors own_es twins taken proper).leaf)
      (ap (λ v. extents_of (rows v (name.Vhd u))) (run.table tt) ∙ ap extents_of (stage_8 s t (known m) u twin read_only o tidy passes sectors own_es twins taken proper).leaf) (area_end told)
      (subst (λ (uid : List ℕ). IsMade s begun ran.0 (child_head s.geometry u now uid image)) (ap base_uuid (let n = number in omega (arith, n))) ran.2.own_image)

  twin_true : g.told → ImageIsTrue (stored g e) (Vhd (child_head s.geometry twin now (twin_uid t) image) (replicate s.geometry.entries None))
  twin_true told =
      let ran = run.ran tt told in
      made_true twin twins (twin_uid t) ran.0 (ap extents_of (stage_5 s t (known m) u twin read_only o tidy passes sectors own_es twins taken proper).twin)
      (ap (λ v. extents_of (rows v (name.Vhd twin))) (run.table tt) ∙ ap extents_of (stage_8 s t (known m) u twin read_only o tidy passes sectors own_es twins taken proper).twin) (area_end told)
      (subst (λ (uid : List ℕ). IsMade s begun ran.0 (child_head s.geometry twin now uid image)) (ap base_uuid number) ran.2.twin_image)

  -- ---- all images

  pub true_then : image ≡ base_body f row.image → (n : Memory) → n.tree.rows ≡ rows_then s t (known m) u twin read_only o tidy passes now (length own_es) (length twins) → HasTrueImages g a m → HasTrueImages g e n
  true_then over n is = true_turned g m n run.site (λ told each r i.
      by_row s t (known m) u twin read_only o tidy passes now (length own_es) (length twins) (λ (q : TreeRow). (In q m.tree.rows × KeepsVolume g a e q) ⊎ ImageIsTrue (stored g e) q.image)
      (inr (base_true told (each row row_there)))
      (inr (subst (λ (x : Body). ImageIsTrue (stored g e) (Vhd (child_head s.geometry u now (own_uid t) x) (replicate s.geometry.entries None))) over (leaf_true told)))
      (inr (subst (λ (x : Body). ImageIsTrue (stored g e) (Vhd (child_head s.geometry twin now (twin_uid t) x) (replicate s.geometry.entries None))) over (twin_true told)))
      (λ q j away. inl (j, other_kept q j away told)) r (subst (In r) is i))
