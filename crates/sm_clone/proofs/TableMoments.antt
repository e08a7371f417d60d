-- The tables of a fork, while its entry stands, are those of its moments.
use Rattle.std.proofs.Common.{◌≡◌, ◌≢◌, ◌⊎◌, inl, inr, ⊎_elim, ℕ, ◌+◌, ◌<◌, ◌≤◌, ◌==◌, Bool, true, false, cond, not, ◌&&◌, ◌||◌, nat_lt, List, [], ◌∷◌, ◌++◌, length, Option, None, Some, is_none, is_some, refl, sym, ap, ap₂, ◌∙◌, arith}
use Rattle.std.proofs.Math.Logic.{∥∥₁_elim}
use Rattle.std.proofs.Props.{props}
use Rattle.std.specs.List.{list_any}
use Rattle.std.proofs.lemmas.Bool.{true≢false, lt-ltb, or_right}
use Rattle.std.proofs.lemmas.Option.{none-some, same_Some}
use Rattle.common_laws.specs.Lists.{In}
use Rattle.common_laws.proofs.Bytes.{bytes_eq-apart}
use Rattle.common_laws.proofs.Lists.{In-map_at}
use Rattle.sm_base.specs.Kinds.{is_image}
use Rattle.sm_base.specs.Names.{IsName, IsUuid, is_base}
use Rattle.sm_base.specs.declared.names.Name.{Name}
use Rattle.sm_base.specs.declared.names.Name.TheVariants.{Vhd, Raw, Old, Clone}
use Rattle.sm_disk.specs.Held.{Held}
use Rattle.vg_meta.specs.Changes.{made}
use Rattle.vg_meta.specs.Tables.{Row, VolumeTable, extents_of, rows}
use Rattle.vg_meta.specs.declared.changes.Change.TheVariants.{Create}
use Rattle.vg_meta.proofs.ByName.{changes_by_name}
use Rattle.vg_volumes.specs.Sites.{Site}
use Rattle.sm_machine.specs.Commits.{is_given_up}
use Rattle.sm_machine.specs.Shapes.{image_limit, renamed}
use Rattle.sm_record.specs.declared.records.Record.{Record}
use Rattle.sm_mgt.specs.Places.{place_for}
use Rattle.sm_standing.specs.Apart.{is_apart}
use Rattle.sm_standing.specs.Checks.{images as table_images}
use Rattle.sm_standing.specs.Entries.{are_past, images_with, names_in, base_number, folding, has_image, head, image_with, is_among, is_fork_begun, is_fork_made, is_forking, is_hidden, is_past, is_there, is_visible, of_row, uuids_in}
use Rattle.sm_standing.specs.Forks.{forked}
use Rattle.sm_standing.specs.Standing.{stands_plainly}
use Rattle.sm_standing.proofs.ForkLaws.{base_among, disk_among, twin_among}
use Rattle.sm_standing.proofs.ImageSectors.{whole_fork, whole_none}
use Rattle.sm_ready.specs.Known.{Known, machine_row, shape_in}
use Rattle.sm_ready.specs.Orderly.{IsOrderly}
use Rattle.sm_ready.specs.Ready.{IsReady, IsTidy}
use Rattle.sm_ready.proofs.BaseLaws.{base_number_fits, base_of_number}
use Rattle.sm_ready.proofs.NumberLaws.{is_base_of, number_of_base}
use Rattle.sm_ready.proofs.OwnLaws.{IsOwn}
use Rattle.sm_ready.proofs.RemoveLaws.{name_or_not}
use Rattle.sm_ready.proofs.RowLaws.{found_in}
use Rattle.sm_ready.proofs.ShapeLaws.{no_old}
use Rattle.sm_clone.specs.Forking.{AreForFork, Passes, base_name, entry_name, fork_of, forking}
use Rattle.sm_clone.specs.declared.forks.Fork.{Fork}
use Rattle.sm_clone.proofs.ForkableLaws.{beside, disk_base, disk_speaks, entry_speaks, own_named, raw_speaks, speaks_own, stood_plainly, twin_speaks, vhd_speaks}
use Rattle.sm_clone.proofs.MomentLaws.{IsApartTable, IsMomentTable}
use Rattle.sm_clone.proofs.PassedLaws.{new, own as own_of}
use Rattle.sm_clone.proofs.StageLaws as staged
use Rattle.sm_clone.proofs.StageLaws.{IsStage}
use Rattle.sm_clone.proofs.TableLaws as tables

and_both : (a b : Bool) → a ≡ true → b ≡ true → (a && b) ≡ true
and_both a b x y = ap₂ (λ p q. p && q) x y

-- the images that have a UUID, by its three volumes
abbrev there_of : List ℕ → Option Row → Option Row → Option Row → List Name
there_of w x y z =
    cond (is_some x) (Vhd w ∷ cond (is_some y) (Raw w ∷ cond (is_some z) (Old w ∷ []) []) (cond (is_some z) (Old w ∷ []) []))
    (cond (is_some y) (Raw w ∷ cond (is_some z) (Old w ∷ []) []) (cond (is_some z) (Old w ∷ []) []))

module _ (s : Site) (t : VolumeTable) (m : Known) (u twin : List ℕ) (read_only : Bool) (o : IsOrderly s t m) (tidy : IsTidy t m) (passes : Passes s t m u twin read_only)
    (keeps : is_given_up (shape_in s t m) (forking u twin read_only) ≡ false) (sectors : ℕ) (own twins : List ℕ) (taken : AreForFork s t (shape_in s t m) u sectors own twins) (proper : IsUuid twin)
    (old : Held) (ready : IsReady s t old m) (k : ℕ) (origin : Record) (placed : place_for m.places twin ≡ Some k) where
  abbrev f : Fork
  f = fork_of passes.number m.rows u twin

  abbrev us : List (List ℕ)
  us = forked f.disk f.base f.twin

  abbrev its : IsOwn m u
  its = own_of s t m u twin read_only o tidy passes

  abbrev pub Moment : VolumeTable → Name → Bool → Type 0
  Moment = IsMomentTable s t m u twin read_only o tidy passes old ready k origin placed

  abbrev Stage : VolumeTable → ℕ → ℕ → Option Row → Option Row → Option Row → Option Row → Option Row → List Name → List ℕ → Type 0
  Stage = IsStage s.count t f.own (base_name f) (Vhd u) (Vhd twin) (entry_name f)

  abbrev own_row : Row
  own_row = tables.own_row s t m u twin read_only o tidy passes sectors own twins taken proper

  abbrev pub table_1 : VolumeTable
  table_1 = tables.table_1 s t m u twin read_only o tidy passes sectors own twins taken proper

  abbrev pub table_2 : VolumeTable
  table_2 = tables.table_2 s t m u twin read_only o tidy passes sectors own twins taken proper

  abbrev pub table_3 : VolumeTable
  table_3 = tables.table_3 s t m u twin read_only o tidy passes sectors own twins taken proper

  abbrev pub table_4 : VolumeTable
  table_4 = tables.table_4 s t m u twin read_only o tidy passes sectors own twins taken proper

  abbrev pub table_5 : VolumeTable
  table_5 = tables.table_5 s t m u twin read_only o tidy passes sectors own twins taken proper

  abbrev pub table_6 : VolumeTable
  table_6 = tables.table_6 s t m u twin read_only o tidy passes sectors own twins taken proper

  abbrev pub table_7 : VolumeTable
  table_7 = tables.table_7 s t m u twin read_only o tidy passes sectors own twins taken proper

  abbrev moved_row : Row
  moved_row = tables.moved_row s t m u twin read_only o tidy passes sectors own twins taken proper

  abbrev hidden_row : Row
  hidden_row = tables.hidden_row s t m u twin read_only o tidy passes sectors own twins taken proper

  abbrev leaf_row : Row
  leaf_row = tables.leaf_row s t m u twin read_only o tidy passes sectors own twins taken proper

  abbrev twin_row : Row
  twin_row = tables.twin_row s t m u twin read_only o tidy passes sectors own twins taken proper

  abbrev leaf_filled : Row
  leaf_filled = tables.leaf_filled s t m u twin read_only o tidy passes sectors own twins taken proper

  abbrev twin_filled : Row
  twin_filled = tables.twin_filled s t m u twin read_only o tidy passes sectors own twins taken proper

  abbrev entry_row : Row
  entry_row = tables.entry_row s t m u twin read_only o tidy passes sectors own twins taken proper

  own_there : rows t f.own ≡ Some own_row
  own_there = tables.own_there s t m u twin read_only o tidy passes sectors own twins taken proper

  -- ---- names

  disk_twin : u ≢ twin
  disk_twin = tables.disk_twin s t m u twin read_only o tidy passes sectors own twins taken proper

  base_twin : f.base ≢ twin
  base_twin is = true≢false (sym (is_base_of passes.number) ∙ ap is_base is ∙ (new s t m u twin read_only o tidy passes).not_base)

  kinds : ((f.own ≡ Vhd u) × (base_name f ≡ Vhd f.base)) ⊎ ((f.own ≡ Raw u) × (base_name f ≡ Raw f.base))
  unfolding renamed
  kinds = ⊎_elim (λ is. inl (is, ap (λ x. renamed x f.base) is)) (λ is. inr (is, ap (λ x. renamed x f.base) is)) (own_named s t m u twin read_only o tidy passes)

  own_speaks : is_apart us f.own ≡ false
  own_speaks = ⊎_elim (λ is. ap (is_apart us) is.0 ∙ disk_speaks f.disk f.base f.twin) (λ is. ap (is_apart us) is.0 ∙ raw_speaks us u (disk_among f.disk f.base f.twin)) kinds

  base_speaks : is_apart us (base_name f) ≡ false
  base_speaks = ⊎_elim (λ is. ap (is_apart us) is.1 ∙ vhd_speaks us f.base (base_among f.disk f.base f.twin)) (λ is. ap (is_apart us) is.1
      ∙ raw_speaks us f.base (base_among f.disk f.base f.twin)) kinds

  -- the names of another UUID are not the disk's
  vhd_other : (w : List ℕ) → u ≢ w → Vhd w ≢ f.own
  vhd_other w other is = ⊎_elim (λ x. let e = is ∙ x.0 in other (sym (let y = e in cc))) (λ x. let e = is ∙ x.0 in cc) kinds

  raw_other : (w : List ℕ) → u ≢ w → Raw w ≢ f.own
  raw_other w other is = ⊎_elim (λ x. let e = is ∙ x.0 in cc) (λ x. let e = is ∙ x.0 in other (sym (let y = e in cc))) kinds

  raw_base : (w : List ℕ) → f.base ≢ w → Raw w ≢ base_name f
  raw_base w other is = ⊎_elim (λ x. let e = is ∙ x.1 in cc) (λ x. let e = is ∙ x.1 in other (sym (let y = e in cc))) kinds

  -- before the fork no other volume speaks of one of the three
  none_before : (x : Name) → is_apart us x ≡ false → x ≢ f.own → rows t x ≡ None
  none_before x speaks other = by (rows t x) refl
    where
      by : (r : Option Row) → rows t x ≡ r → r ≡ None
      by None is = refl
      by (Some r) is = absurd (other (speaks_own s t m u twin read_only o tidy passes keeps x r is speaks))

  -- ---- UUIDs of bases

  disk_uuid : IsUuid u
  unfolding IsName
  disk_uuid = (tables.to_fork s t m u twin read_only o tidy passes sectors own twins taken proper).leaf_proper

  disk_below : is_base u ≡ true → base_number u < t.sequence
  unfolding shape_in
  disk_below is = ∥∥₁_elim o.well_formed (hlevel props) (λ w.
      w.bases (machine_row its.row) (base_number u) (In-map_at machine_row m.rows its.row its.there) (base_number_fits u disk_uuid) (its.uuid ∙ sym (base_of_number u disk_uuid is)))

  past_disk : (j : ℕ) → t.sequence < j → is_past j u ≡ true
  past_disk j later = by (is_base u) refl
    where
      by : (b : Bool) → is_base u ≡ b → (not (is_base u) || nat_lt (base_number u) j) ≡ true
      by false is = ap (λ b. not b || nat_lt (base_number u) j) is
      by true is = or_right (not (is_base u)) (nat_lt (base_number u) j) (lt-ltb (base_number u) j (omega (arith, disk_below is, later)))

  past_base : (j : ℕ) → t.sequence < j → is_past j f.base ≡ true
  past_base j later =
      let few = (new s t m u twin read_only o tidy passes).unspent in
      let less = passes.below in
      or_right (not (is_base f.base)) (nat_lt (base_number f.base) j)
      (ap (λ i. nat_lt i j) (number_of_base passes.number (omega (arith, few))) ∙ lt-ltb passes.number j (omega (arith, less, later)))

  past_twin : (j : ℕ) → is_past j twin ≡ true
  past_twin j = ap (λ b. not b || nat_lt (base_number twin) j) (new s t m u twin read_only o tidy passes).not_base

  past : (v : VolumeTable) → t.sequence < v.sequence → are_past v (Clone f.disk f.base f.twin) ≡ true
  past v later = ap₂ (λ a b. a && b) (past_disk v.sequence later) (ap₂ (λ a b. a && (b && true)) (past_base v.sequence later) (past_twin v.sequence))

  -- ---- the stage of the entry

  forking_at : (v : VolumeTable) → folding v ≡ folding t → (is_fork_begun v f.disk f.base f.twin || is_fork_made v f.disk f.base f.twin) ≡ true → is_forking v f.disk f.base f.twin ≡ true
  forking_at v same at =
      and_both _ _ (ap not (bytes_eq-apart u f.base (disk_base s t m u twin read_only o tidy passes)))
      (and_both _ _ (ap not (bytes_eq-apart u twin disk_twin))
      (and_both _ _ (ap not (bytes_eq-apart f.base twin base_twin))
      (and_both _ _ (ap not (ap (λ ns. list_any (is_among us) (elim (head ns) as (λ _. List (List ℕ)) [ None ↦ [] | Some n ↦ uuids_in n ])) same
      ∙ beside s t m u twin read_only o tidy passes keeps)) at)))

  -- ---- a table behind the rename

  -- an image that is new, or written by now, and may be seen
  abbrev IsNewIn : Option Row → Bool → Type 0
  IsNewIn x written = (r : Row) → x ≡ Some r → (r.hidden ≡ false) × ((r.fresh ≡ true) ⊎ (written ≡ true))

  visible_or_gone : (x : Option Row) (written : Bool) → IsNewIn x written → (is_none x || of_row (λ r. not r.hidden) x) ≡ true
  visible_or_gone None written h = refl
  visible_or_gone (Some r) written h = ap not (h r refl).0

  module _ (v : VolumeTable) (j more : ℕ) (own_now base_now leaf twin_now entry : Option Row) (ns : List Name) (gone : List ℕ) (st : Stage v j more own_now base_now leaf twin_now entry ns gone) where
    others : (x : Name) → is_apart us x ≡ true → rows v x ≡ rows t x
    others x apart =
        st.others x (away f.own own_speaks) (away (base_name f) base_speaks) (away (Vhd u) (disk_speaks f.disk f.base f.twin)) (away (Vhd twin) (twin_speaks f.disk f.base f.twin))
        (away (entry_name f) (entry_speaks f.disk f.base f.twin))
      where
        away : (y : Name) → is_apart us y ≡ false → x ≢ y
        away y speaks is = true≢false (sym apart ∙ ap (is_apart us) is ∙ speaks)

    -- a raw image of one of the three
    raw_at : (w : List ℕ) → Raw w ≢ f.own → Raw w ≢ base_name f → rows v (Raw w) ≡ rows t (Raw w)
    raw_at w own base = st.others (Raw w) own base (λ e. let x = e in cc) (λ e. let x = e in cc) (λ e. let x = e in cc)

    -- which volume speaks of one of the three
    pub which : (r : Row) → In r v.volumes → is_apart us r.name ≡ false
        → (r.name ≡ entry_name f) ⊎ (((r.name ≡ base_name f) × (base_now ≡ Some r)) ⊎ (((r.name ≡ Vhd u) × (leaf ≡ Some r)) ⊎ (((r.name ≡ Vhd twin) × (twin_now ≡ Some r))
        ⊎ ((r.name ≡ f.own) × (f.own ≢ Vhd u) × (own_now ≡ Some r)))))
    which r i speaks = first (name_or_not r.name (entry_name f)) (name_or_not r.name (base_name f)) (name_or_not r.name (Vhd u)) (name_or_not r.name (Vhd twin)) (name_or_not r.name f.own)
      where
        there : rows v r.name ≡ Some r
        there = found_in v.volumes st.table.volumes.rising r i

        first : (r.name ≡ entry_name f) ⊎ (r.name ≢ entry_name f) → (r.name ≡ base_name f) ⊎ (r.name ≢ base_name f) → (r.name ≡ Vhd u) ⊎ (r.name ≢ Vhd u) → (r.name ≡ Vhd twin) ⊎ (r.name ≢ Vhd twin)
            → (r.name ≡ f.own) ⊎ (r.name ≢ f.own)
            → (r.name ≡ entry_name f) ⊎ (((r.name ≡ base_name f) × (base_now ≡ Some r)) ⊎ (((r.name ≡ Vhd u) × (leaf ≡ Some r)) ⊎ (((r.name ≡ Vhd twin) × (twin_now ≡ Some r))
            ⊎ ((r.name ≡ f.own) × (f.own ≢ Vhd u) × (own_now ≡ Some r)))))
        first (inl e) b l w n = inl e
        first (inr e) (inl b) l w n = inr (inl (b, sym st.base ∙ ap (rows v) (sym b) ∙ there))
        first (inr e) (inr b) (inl l) w n = inr (inr (inl (l, sym st.leaf ∙ ap (rows v) (sym l) ∙ there)))
        first (inr e) (inr b) (inr l) (inl w) n = inr (inr (inr (inl (w, sym st.twin ∙ ap (rows v) (sym w) ∙ there))))
        first (inr e) (inr b) (inr l) (inr w) (inl n) = let other = λ (is : f.own ≡ Vhd u). l (n ∙ is) in inr (inr (inr (inr (n, other, sym (st.own other) ∙ ap (rows v) (sym n) ∙ there))))
        first (inr e) (inr b) (inr l) (inr w) (inr n) =
            absurd (n (speaks_own s t m u twin read_only o tidy passes keeps r.name r (sym (st.others r.name n b l w e) ∙ there) speaks))

  -- the base stands in its place, and the two images over it, new or written
  module _ (v : VolumeTable) (j more : ℕ) (base : Row) (leaf twin_now entry : Option Row) (gone : List ℕ) (written : Bool) (st : Stage v j more None (Some base) leaf twin_now entry
      (entry_name f ∷ []) gone)
      (some : 0 < j) (few : length (table_images v) ≤ image_limit) (filled : base.fresh ≡ false) (extents : base.extents ≡ own_row.extents) (new_leaf : IsNewIn leaf written)
      (new_twin : IsNewIn twin_now written)
      (hidden : ((leaf ≡ None) × (twin_now ≡ None)) ⊎ (base.hidden ≡ true)) where
    raw_disk : rows v (Raw u) ≡ None
    raw_disk = ⊎_elim
        (λ is. raw_at v j more None (Some base) leaf twin_now entry (entry_name f ∷ []) gone st u (λ e. let x = e ∙ is.0 in cc) (λ e. let x = e ∙ is.1 in cc)
        ∙ none_before (Raw u) (raw_speaks us u (disk_among f.disk f.base f.twin)) (λ e. let x = e ∙ is.0 in cc))
        (λ is. ap (rows v) (sym is.0) ∙ st.own (λ e. let x = sym is.0 ∙ e in cc)) kinds

    raw_twin : rows v (Raw twin) ≡ None
    raw_twin =
        raw_at v j more None (Some base) leaf twin_now entry (entry_name f ∷ []) gone st twin (raw_other twin disk_twin) (raw_base twin base_twin)
        ∙ none_before (Raw twin) (raw_speaks us twin (twin_among f.disk f.base f.twin)) (raw_other twin disk_twin)

    -- a test of the base, whatever its kind
    either : (test : Row → Bool) → test base ≡ true → (of_row test (rows v (Vhd f.base)) || of_row test (rows v (Raw f.base))) ≡ true
    either test passes = ⊎_elim
        (λ is. ap (λ x. of_row test x || of_row test (rows v (Raw f.base))) (ap (rows v) (sym is.1) ∙ st.base) ∙ ap (λ b. b || of_row test (rows v (Raw f.base))) passes)
        (λ is. or_right (of_row test (rows v (Vhd f.base))) (of_row test (rows v (Raw f.base))) (ap (of_row test) (ap (rows v) (sym is.1) ∙ st.base) ∙ passes)) kinds

    fork_made : is_fork_made v f.disk f.base f.twin ≡ true
    fork_made =
        and_both _ _ (either (λ r. not r.fresh) (ap not filled))
        (and_both _ _ (ap (λ x. not (is_some x)) raw_disk)
        (and_both _ _ (ap (λ x. not (is_some x)) raw_twin)
        (and_both _ _ (ap (λ x. is_none x || of_row (λ r. not r.hidden) x) st.leaf ∙ visible_or_gone leaf written new_leaf)
        (and_both _ _ (ap (λ x. is_none x || of_row (λ r. not r.hidden) x) st.twin ∙ visible_or_gone twin_now written new_twin)
        (⊎_elim (λ none. ap₂ (λ x y. (not (is_some x) && not (is_some y)) || (is_hidden v (Vhd f.base) || is_hidden v (Raw f.base))) (st.leaf ∙ none.0) (st.twin ∙ none.1))
        (λ on. or_right (not (is_there v (Vhd u)) && not (is_there v (Vhd twin))) (is_hidden v (Vhd f.base) || is_hidden v (Raw f.base)) (either (λ r. r.hidden && not r.fresh) (ap₂
        (λ x y. x && not y) on filled)))
        hidden)))))

    base_place : image_with v f.base ≡ Some (base_name f)
    unfolding image_with
    base_place = ⊎_elim
        (λ is. ap (λ (x : Option Row). cond (is_some x) (Some (Vhd f.base)) (cond (is_there v (Raw f.base)) (Some (Raw f.base)) None)) (ap (rows v) (sym is.1) ∙ st.base) ∙ ap Some (sym is.1))
        (λ is. ap₂ (λ (x y : Option Row). cond (is_some x) (Some (Vhd f.base)) (cond (is_some y) (Some (Raw f.base)) None))
        (st.others (Vhd f.base) (vhd_other f.base (disk_base s t m u twin read_only o tidy passes)) (λ e. let x = e
        ∙ is.1 in cc) (λ e. disk_base s t m u twin read_only o tidy passes (sym (let x = e in cc)))
        (λ e. base_twin (let x = e in cc)) (λ e. let x = e in cc)
        ∙ none_before (Vhd f.base) (vhd_speaks us f.base (base_among f.disk f.base f.twin)) (vhd_other f.base (disk_base s t m u twin read_only o tidy passes)))
        (ap (rows v) (sym is.1) ∙ st.base)
        ∙ ap Some (sym is.1)) kinds

    pub moment_at : Moment v (base_name f) written
    moment_at =
        let later : t.sequence < v.sequence = omega (arith, st.number, some) in
        record {
          same = record {
            table = st.table;
            others = others v j more None (Some base) leaf twin_now entry (entry_name f ∷ []) gone st;
            whole = λ x. whole_fork v x f.disk f.base f.twin (ap head st.making);
            alias = f.base;
            named = refl;
            now = base;
            moved = st.base;
            still = filled;
            extents = extents ∙ sym (ap extents_of own_there);
          };
          later = later;
          making = st.making;
          folding = st.folding;
          few = few;
          place = inr base_place;
          stage = forking_at v st.folding (or_right (is_fork_begun v f.disk f.base f.twin) (is_fork_made v f.disk f.base f.twin) fork_made);
          past = past v later;
          volumes = λ r i speaks. volumes r (which v j more None (Some base) leaf twin_now entry (entry_name f ∷ []) gone st r i speaks);
        }
      where
        volumes : (r : Row) → (r.name ≡ entry_name f) ⊎ (((r.name ≡ base_name f) × (Some base ≡ Some r)) ⊎ (((r.name ≡ Vhd u) × (leaf ≡ Some r)) ⊎ (((r.name ≡ Vhd twin) × (twin_now ≡ Some r))
            ⊎ ((r.name ≡ f.own) × (f.own ≢ Vhd u) × (None ≡ Some r)))))
            → (r.name ≡ Clone f.disk f.base f.twin) ⊎ ((r.name ≡ base_name f) ⊎ (((r.name ≡ Vhd f.disk) ⊎ (r.name ≡ Vhd f.twin)) × (r.hidden ≡ false) × ((r.fresh ≡ true) ⊎ (written ≡ true))))
        volumes r (inl e) = inl e
        volumes r (inr (inl b)) = inr (inl b.0)
        volumes r (inr (inr (inl l))) = let x = new_leaf r l.1 in inr (inr (inl l.0, x.0, x.1))
        volumes r (inr (inr (inr (inl w)))) = let x = new_twin r w.1 in inr (inr (inr w.0, x.0, x.1))
        volumes r (inr (inr (inr (inr n)))) = absurd (none-some r n.2)

  -- ---- the tables

  none_new : (written : Bool) → IsNewIn None written
  none_new written r e = absurd (none-some r e)

  still_new : (n : Name) (es : List ℕ) (written : Bool) → IsNewIn (Some (made n true es)) written
  still_new n es written r e = let same = same_Some (made n true es) r e in (ap (λ (x : Row). x.hidden) (sym same), inl (ap (λ (x : Row). x.fresh) (sym same)))

  by_now : (n : Name) (es : List ℕ) → IsNewIn (Some (made n false es)) true
  by_now n es r e = let same = same_Some (made n false es) r e in (ap (λ (x : Row). x.hidden) (sym same), inr refl)

  own_filled : own_row.fresh ≡ false
  own_filled = tables.own_filled s t m u twin read_only o tidy passes sectors own twins taken proper

  few_in : (v : VolumeTable) → length (names_in v is_image) ≤ length (names_in t is_image) + 2 → length (table_images v) ≤ image_limit
  few_in = tables.few_images s t m u twin read_only o tidy passes sectors own twins taken proper

  -- before the rename the table is that from before, with the entry
  same_1 : (x : Name) → x ≢ entry_name f → rows table_1 x ≡ rows t x
  same_1 x other =
      (changes_by_name s.count t (Create (entry_name f) false []) o.table
      (staged.may_1 s.count t f.own (base_name f) (Vhd u) (Vhd twin) (entry_name f) own twins (tables.to_fork s t m u twin read_only o tidy passes sectors own twins taken proper))).others x other

  no_vhd : (w : List ℕ) → is_among us w ≡ true → u ≢ w → rows table_1 (Vhd w) ≡ None
  no_vhd w speaks other = same_1 (Vhd w) (λ e. let x = e in cc) ∙ none_before (Vhd w) (vhd_speaks us w speaks) (vhd_other w other)

  no_raw : (w : List ℕ) → is_among us w ≡ true → u ≢ w → rows table_1 (Raw w) ≡ None
  no_raw w speaks other = same_1 (Raw w) (λ e. let x = e in cc) ∙ none_before (Raw w) (raw_speaks us w speaks) (raw_other w other)

  no_old_leaf : (w : List ℕ) → rows table_1 (Old w) ≡ None
  no_old_leaf w = same_1 (Old w) (λ e. let x = e in cc) ∙ no_old s t m w o

  no_images : (w : List ℕ) → is_among us w ≡ true → u ≢ w → has_image table_1 w ≡ false
  no_images w speaks other = by _ _ _ (no_vhd w speaks other) (no_raw w speaks other) (no_old_leaf w)
    where
      by : (x y z : Option Row) → x ≡ None → y ≡ None → z ≡ None → not (length (there_of w x y z) == 0) ≡ false
      by x y z a b c = ap₂ (λ p q. not (length (there_of w p q z) == 0)) a b ∙ ap (λ r. not (length (there_of w None None r) == 0)) c

  -- the disk's image is there by itself, as it was
  one_image : (length (images_with table_1 u) == 1) ≡ true
  one_image = ⊎_elim
      (λ is. by _ _ _ (inl (
        same_1 (Vhd u) (λ e. let x = e in cc) ∙ ap (rows t) (sym is.0) ∙ own_there,
        same_1 (Raw u) (λ e. let x = e in cc)
            ∙ none_before (Raw u) (raw_speaks us u (disk_among f.disk f.base f.twin)) (λ e. let x = e ∙ is.0 in cc),
      )) (no_old_leaf u))
      (λ is. by _ _ _ (inr (
        same_1 (Vhd u) (λ e. let x = e in cc) ∙ none_before (Vhd u) (disk_speaks f.disk f.base f.twin) (λ e. let x = e ∙ is.0 in cc),
        same_1 (Raw u) (λ e. let x = e in cc)
            ∙ ap (rows t) (sym is.0) ∙ own_there,
      )) (no_old_leaf u)) kinds
    where
      by : (x y z : Option Row) → ((x ≡ Some own_row) × (y ≡ None)) ⊎ ((x ≡ None) × (y ≡ Some own_row)) → z ≡ None → (length (there_of u x y z) == 1) ≡ true
      by x y z (inl a) c = ap₂ (λ p q. length (there_of u p q z) == 1) a.0 a.1 ∙ ap (λ r. length (there_of u (Some own_row) None r) == 1) c
      by x y z (inr a) c = ap₂ (λ p q. length (there_of u p q z) == 1) a.0 a.1 ∙ ap (λ r. length (there_of u None (Some own_row) r) == 1) c

  seen_own : is_visible table_1 f.own ≡ true
  seen_own = ap (of_row (λ r. not r.hidden && not r.fresh)) (same_1 f.own (λ e. own_entry e) ∙ own_there)
      ∙ ap₂ (λ a b. not a && not b) (tables.own_shown s t m u twin read_only o tidy passes sectors own twins taken proper) own_filled
    where
      own_entry : f.own ≡ entry_name f → ⊥
      own_entry e = ⊎_elim (λ is. let x = sym is.0 ∙ e in cc) (λ is. let x = sym is.0 ∙ e in cc) kinds

  fork_begun : is_fork_begun table_1 f.disk f.base f.twin ≡ true
  fork_begun =
      and_both _ _ (ap not (no_images f.base (base_among f.disk f.base f.twin) (disk_base s t m u twin read_only o tidy passes)))
      (and_both _ _ (ap not (no_images twin (twin_among f.disk f.base f.twin) disk_twin))
      (and_both _ _ one_image
      (⊎_elim (λ is. ap (λ b. b || (is_visible table_1 (Raw u) || is_visible table_1 (Old u))) (ap (is_visible table_1) (sym is.0) ∙ seen_own))
      (λ is. or_right (is_visible table_1 (Vhd u)) (is_visible table_1 (Raw u) || is_visible table_1 (Old u))
      (ap (λ b. b || is_visible table_1 (Old u)) (ap (is_visible table_1) (sym is.0) ∙ seen_own))) kinds)))

  no_base_image : image_with table_1 f.base ≡ None
  unfolding image_with
  no_base_image = ap₂ (λ (x y : Option Row). cond (is_some x) (Some (Vhd f.base)) (cond (is_some y) (Some (Raw f.base)) None))
      (no_vhd f.base (base_among f.disk f.base f.twin) (disk_base s t m u twin read_only o tidy passes)) (no_raw f.base (base_among f.disk f.base f.twin)
      (disk_base s t m u twin read_only o tidy passes))

  stands_1 : stands_plainly table_1 u ≡ Some f.own
  stands_1 =
      ap₂ (λ (x y : Option Row). cond (of_row (λ r. not r.hidden && not r.fresh) x) (Some (Vhd u)) (cond (of_row (λ r. not r.hidden && not r.fresh) y) (Some (Raw u)) None))
      (same_1 (Vhd u) (λ e. let x = e in cc)) (same_1 (Raw u) (λ e. let x = e in cc))
      ∙ stood_plainly s t m u twin read_only o tidy passes

  own_alias : f.own ≡ renamed f.own u
  unfolding renamed
  own_alias = ⊎_elim (λ is. is.0 ∙ sym (ap (λ x. renamed x u) is.0)) (λ is. is.0 ∙ sym (ap (λ x. renamed x u) is.0)) kinds

  pub moment_1 : Moment table_1 f.own false
  moment_1 =
      let st = tables.stage_1 s t m u twin read_only o tidy passes sectors own twins taken proper in
      let later : t.sequence < table_1.sequence = omega (arith, st.number) in
      record {
        same = record {
          table = st.table;
          others = others table_1 1 0 (rows t f.own) None (rows t (Vhd u)) None (Some entry_row) (entry_name f ∷ []) [] st;
          whole = λ x. whole_fork table_1 x f.disk f.base f.twin (ap head st.making);
          alias = u;
          named = own_alias;
          now = own_row;
          moved = same_1 f.own own_entry ∙ own_there;
          still = own_filled;
          extents = sym (ap extents_of own_there);
        };
        later = later;
        making = st.making;
        folding = st.folding;
        few = few_in table_1 (omega (arith, st.images));
        place = inl (no_base_image, stands_1);
        stage = forking_at table_1 st.folding (ap (λ b. b || is_fork_made table_1 f.disk f.base f.twin) fork_begun);
        past = past table_1 later;
        volumes = λ r i speaks. volumes r (which table_1 1 0 (rows t f.own) None (rows t (Vhd u)) None (Some entry_row) (entry_name f ∷ []) [] st r i speaks);
      }
    where
      own_entry : f.own ≡ entry_name f → ⊥
      own_entry e = ⊎_elim (λ is. let x = sym is.0 ∙ e in cc) (λ is. let x = sym is.0 ∙ e in cc) kinds

      volumes : (r : Row) → (r.name ≡ entry_name f) ⊎ (((r.name ≡ base_name f) × (None ≡ Some r)) ⊎ (((r.name ≡ Vhd u) × (rows t (Vhd u) ≡ Some r)) ⊎ (((r.name ≡ Vhd twin) × (None ≡ Some r))
          ⊎ ((r.name ≡ f.own) × (f.own ≢ Vhd u) × (rows t f.own ≡ Some r)))))
          → (r.name ≡ Clone f.disk f.base f.twin) ⊎ ((r.name ≡ f.own) ⊎ (((r.name ≡ Vhd f.disk) ⊎ (r.name ≡ Vhd f.twin)) × (r.hidden ≡ false) × ((r.fresh ≡ true) ⊎ (false ≡ true))))
      volumes r (inl e) = inl e
      volumes r (inr (inl b)) = absurd (none-some r b.1)
      volumes r (inr (inr (inl l))) = inr (inl (l.0 ∙ speaks_own s t m u twin read_only o tidy passes keeps (Vhd u) r l.1 (disk_speaks f.disk f.base f.twin)))
      volumes r (inr (inr (inr (inl w)))) = absurd (none-some r w.1)
      volumes r (inr (inr (inr (inr n)))) = inr (inl n.0)

  pub moment_2 : Moment table_2 (base_name f) false
  moment_2 = let st = tables.stage_2 s t m u twin read_only o tidy passes sectors own twins taken proper in
      moment_at table_2 2 0 moved_row None None (Some entry_row) [] false st (omega arith) (few_in table_2 (omega (arith, st.images))) own_filled refl (none_new false) (none_new false) (inl
      (refl, refl))

  pub moment_3 : Moment table_3 (base_name f) false
  moment_3 = let st = tables.stage_3 s t m u twin read_only o tidy passes sectors own twins taken proper in
      moment_at table_3 3 0 hidden_row None None (Some entry_row) [] false st (omega arith) (few_in table_3 (omega (arith, st.images))) own_filled refl (none_new false) (none_new false) (inr refl)

  pub moment_4 : Moment table_4 (base_name f) false
  moment_4 = let st = tables.stage_4 s t m u twin read_only o tidy passes sectors own twins taken proper in
      moment_at table_4 4 1 hidden_row (Some leaf_row) None (Some entry_row) own false st (omega arith) (few_in table_4 (omega (arith, st.images))) own_filled refl
      (still_new (Vhd u) own false) (none_new false) (inr refl)

  pub moment_5 : Moment table_5 (base_name f) false
  moment_5 = let st = tables.stage_5 s t m u twin read_only o tidy passes sectors own twins taken proper in
      moment_at table_5 5 2 hidden_row (Some leaf_row) (Some twin_row) (Some entry_row) (own ++ twins) false st (omega arith) (few_in table_5 st.images) own_filled refl
      (still_new (Vhd u) own false) (still_new (Vhd twin) twins false) (inr refl)

  pub moment_6 : Moment table_6 (base_name f) true
  moment_6 = let st = tables.stage_6 s t m u twin read_only o tidy passes sectors own twins taken proper in
      moment_at table_6 6 2 hidden_row (Some leaf_filled) (Some twin_row) (Some entry_row) (own ++ twins) true st (omega arith) (few_in table_6 st.images) own_filled refl
      (by_now (Vhd u) own) (still_new (Vhd twin) twins true) (inr refl)

  pub moment_7 : Moment table_7 (base_name f) true
  moment_7 = let st = tables.stage_7 s t m u twin read_only o tidy passes sectors own twins taken proper in
      moment_at table_7 7 2 hidden_row (Some leaf_filled) (Some twin_filled) (Some entry_row) (own ++ twins) true st (omega arith) (few_in table_7 st.images) own_filled refl
      (by_now (Vhd u) own) (by_now (Vhd twin) twins) (inr refl)

  -- ---- behind the last commit

  abbrev pub table_8 : VolumeTable
  table_8 = tables.table_8 s t m u twin read_only o tidy passes sectors own twins taken proper

  pub apart_8 : IsApartTable s t m u twin read_only o tidy passes old ready k origin placed table_8 (base_name f)
  apart_8 = let st = tables.stage_8 s t m u twin read_only o tidy passes sectors own twins taken proper in record {
    table = st.table;
    others = others table_8 8 2 None (Some hidden_row) (Some leaf_filled) (Some twin_filled) None [] (own ++ twins) st;
    whole = λ x. whole_none table_8 x st.making;
    alias = f.base;
    named = refl;
    now = hidden_row;
    moved = st.base;
    still = own_filled;
    extents = sym (ap extents_of own_there);
  }

  -- the base is no disk
  pub no_base_8 : stands_plainly table_8 f.base ≡ None
  no_base_8 = ⊎_elim
      (λ is. ap₂ (λ (x y : Option Row). cond (seen x) (Some (Vhd f.base)) (cond (seen y) (Some (Raw f.base)) None)) (ap (rows table_8) (sym is.1) ∙ st.base)
      (st.others (Raw f.base) (raw_other f.base apart) (λ e. let x = e ∙ is.1 in cc) (λ e. let x = e in cc) (λ e. let x = e in cc) (λ e. let x = e in cc)
      ∙ none_before (Raw f.base) (raw_speaks us f.base (base_among f.disk f.base f.twin)) (raw_other f.base apart)))
      (λ is. ap₂ (λ (x y : Option Row). cond (seen x) (Some (Vhd f.base)) (cond (seen y) (Some (Raw f.base)) None))
      (st.others (Vhd f.base) (vhd_other f.base apart) (λ e. let x = e ∙ is.1 in cc) (λ e. apart (sym (let x = e in cc))) (λ e. base_twin (let x = e in cc)) (λ e. let x = e in cc)
      ∙ none_before (Vhd f.base) (vhd_speaks us f.base (base_among f.disk f.base f.twin)) (vhd_other f.base apart))
      (ap (rows table_8) (sym is.1) ∙ st.base)) kinds
    where
      st : Stage table_8 8 2 None (Some hidden_row) (Some leaf_filled) (Some twin_filled) None [] (own ++ twins)
      st = tables.stage_8 s t m u twin read_only o tidy passes sectors own twins taken proper

      apart : u ≢ f.base
      apart = disk_base s t m u twin read_only o tidy passes

      seen : Option Row → Bool
      seen x = of_row (λ r. not r.hidden && not r.fresh) x
