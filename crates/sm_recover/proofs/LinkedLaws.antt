-- Where children are being linked: the image and its parent are in memory, both hidden and of one size, also once a fork is undone.
use Rattle.std.proofs.Common.{◌≡◌, ◌≢◌, ◌⊎◌, inl, inr, ⊎_elim, ℕ, ◌≤◌, ◌&&◌, ◌||◌, Bool, true, false, cond, not, List, [], ◌∷◌, length, Option, Some, None, is_some, refl, sym, ap, ap₂, ◌∙◌, subst, arith, nat_le}
use Rattle.std.specs.List.{list_any}
use Rattle.std.specs.Str.{bytes_eq}
use Rattle.std.proofs.lemmas.Bool.{and_parts, leb-true, true≢false}
use Rattle.std.proofs.lemmas.Option.{same_Some}
use Rattle.common_laws.proofs.Booleans.{not_false, or_cases}
use Rattle.common_laws.proofs.Bytes.{bytes_eq-refl, bytes_eq-same}
use Rattle.common_laws.specs.Lists.{In}
use Rattle.sm_base.specs.Kinds.{is_entry, is_image as is_data}
use Rattle.sm_base.specs.declared.names.Name.{Name}
use Rattle.sm_base.specs.declared.names.Name.TheVariants.{Mgt, Vhd, Raw, Old, Cbt, Clone, Inflate, Coalesce, Relink, Leaf}
use Rattle.vg_meta.specs.Tables.{Row, VolumeTable, rows}
use Rattle.vg_meta.proofs.RowLaws.{row_of-name}
use Rattle.vg_volumes.specs.Sites.{Site}
use Rattle.vg_volumes.specs.declared.stores.Store.{Ghosts}
use Rattle.sm_machine.specs.Shapes.{same_image}
use Rattle.sm_record.specs.declared.records.Record.{Record}
use Rattle.sm_mgt.specs.Places.{place_count}
use Rattle.sm_standing.specs.Checks.{PassesButLeaf, has_twin, has_uuid, is_entry_linked}
use Rattle.sm_standing.specs.Entries.{are_past, folding_uuids, head, image_with, is_among, is_at_stage, is_hidden, is_there, making, of_row, uuids_in}
use Rattle.sm_standing.specs.Opened.{parent_name as parent_of, under_name}
use Rattle.sm_standing.specs.Outlines.{Outline}
use Rattle.sm_standing.proofs.DisksShown.{row_of-In}
use Rattle.vhd_image.specs.Bodies.{in_volume, parent_name, sector_count, volume_name}
use Rattle.vhd_image.specs.declared.images.Body.{Body}
use Rattle.vhd_image.specs.declared.images.Body.TheVariants as body
use Rattle.vhd_chain.specs.Trees.{row_name, tree_row, with_row, without}
use Rattle.vhd_chain.specs.declared.rows.TreeRow.{TreeRow}
use Rattle.vhd_chain.proofs.ByName.{tree_row-with_other, tree_row-without_other}
use Rattle.sm_ready.specs.Outlined.{outline_in}
use Rattle.sm_ready.proofs.Orders.{In-tree_row}
use Rattle.sm_recover.specs.Backs.{base_back, entry_back, fork_back, row_back, rows_back}
use Rattle.sm_checks.specs.Faults.{HasLinks, HasPlaces, HasTable, HasVolumes, has_parent_in, is_as_large_in, is_link_in}
use Rattle.sm_checks.specs.Links.{IsLinkRight}
use Rattle.sm_checks.specs.Loaded.{AreRowsOf, HasEachRow, read_volumes, shortened, stored_with}
use Rattle.sm_recover.specs.Repairs.{IsEndable}
use Rattle.sm_recover.proofs.CheckedTrees as checked
use Rattle.sm_checks.proofs.EntryLaws.{apart_folding, base_found, fork_found}
use Rattle.sm_recover.proofs.UndoTables.{staged_end}
use Rattle.sm_recover.proofs.GiveBackLaws.{rows_none, rows_some}
use Rattle.sm_checks.proofs.LinkLaws.{link_seen}
use Rattle.sm_recover.proofs.RowsLaws.{has_volume}
use Rattle.sm_recover.proofs.SeenLaws.{volumes_seen}
use Rattle.sm_checks.proofs.KnownLaws.{first_folding}

-- ---- a name that is none of a fork's

-- an image of a UUID, by either of its two names
abbrev pub IsImageOf : List ℕ → Name → Type 0
IsImageOf v n = (n ≡ Vhd v) ⊎ (n ≡ Raw v)

other_image : {v u : List ℕ} {n m : Name} → v ≢ u → IsImageOf v n → IsImageOf u m → m ≢ n
other_image apart (inl a) (inl b) same = apart (let x : Vhd _ ≡ Vhd _ = sym a ∙ sym same ∙ b in let y = x in cc)
other_image apart (inl a) (inr b) same = let x : Vhd _ ≡ Raw _ = sym a ∙ sym same ∙ b in absurd (let y = x in cc)
other_image apart (inr a) (inl b) same = let x : Raw _ ≡ Vhd _ = sym a ∙ sym same ∙ b in absurd (let y = x in cc)
other_image apart (inr a) (inr b) same = apart (let x : Raw _ ≡ Raw _ = sym a ∙ sym same ∙ b in let y = x in cc)

under_of : (from : Name) (d : List ℕ) → IsImageOf d (under_name from d)
under_of (Raw v) d = inr refl
under_of _ d = inl refl

back_name : (to : Name) (y : TreeRow) → row_name (row_back to y) ≡ to
back_name to y = by y.image
  where
    by : (image : Body) → volume_name (in_volume to image) ≡ to
    by (body.Raw volume size) = refl
    by (body.Vhd head m) = refl

-- it is in memory what it was
fork_kept : (t : VolumeTable) (d b w v : List ℕ) (n : Name) (xs : List TreeRow) → v ≢ d → v ≢ b → v ≢ w → IsImageOf v n → tree_row (entry_back t (Some (Clone d b w)) xs) n ≡ tree_row xs n
fork_kept t d b w v n xs not_disk not_base not_twin is = by (image_with t b) refl
  where
    past_twin : tree_row (without (Vhd w) xs) n ≡ tree_row xs n
    past_twin = tree_row-without_other xs (Vhd w) n (other_image not_twin is (inl refl))

    base : (from : Name) → IsImageOf b from → (zs : List TreeRow) → (o : Option TreeRow) → tree_row zs from ≡ o → tree_row (base_back from (under_name from d) zs) n ≡ tree_row zs n
    base from named zs None none = ap (λ o. tree_row (elim o as (λ _. List TreeRow) [ None ↦ zs | Some y ↦ with_row (row_back (under_name from d) y) (without from zs) ]) n) none
    base from named zs (Some y) there =
        ap (λ o. tree_row (elim o as (λ _. List TreeRow) [ None ↦ zs | Some y ↦ with_row (row_back (under_name from d) y) (without from zs) ]) n) there
        ∙ tree_row-with_other (without from zs) (row_back (under_name from d) y) n (λ same. other_image not_disk is (under_of from d) (sym (back_name (under_name from d) y) ∙ same))
        ∙ tree_row-without_other zs from n (other_image not_base is named)

    by : (o : Option Name) → image_with t b ≡ o → tree_row (fork_back o d (without (Vhd w) xs)) n ≡ tree_row xs n
    by None none = past_twin
    by (Some from) found =
        let zs = without (Vhd d) (without (Vhd w) xs) in
        base from (base_found t b from found).name zs (tree_row zs from) refl ∙ tree_row-without_other (without (Vhd w) xs) (Vhd d) n (other_image not_disk is (inl refl)) ∙ past_twin

-- the UUIDs of the entry are none of a fork's
not_among : (d b w : List ℕ) (us : List (List ℕ)) (v : List ℕ) → In v us → not (list_any (is_among (d ∷ b ∷ w ∷ [])) us) ≡ true → is_among (d ∷ b ∷ w ∷ []) v ≡ false
not_among d b w [] v i apart = absurd i
not_among d b w (u ∷ us) v i apart = by (is_among (d ∷ b ∷ w ∷ []) u) refl i apart (λ j h. not_among d b w us v j h)
  where
    by : (x : Bool) → is_among (d ∷ b ∷ w ∷ []) u ≡ x → (v ≡ u) ⊎ In v us → not (x || list_any (is_among (d ∷ b ∷ w ∷ [])) us) ≡ true
        → (In v us → not (list_any (is_among (d ∷ b ∷ w ∷ [])) us) ≡ true → is_among (d ∷ b ∷ w ∷ []) v ≡ false) → is_among (d ∷ b ∷ w ∷ []) v ≡ false
    by true is i apart rest = absurd (true≢false (sym apart))
    by false is (inl same) apart rest = ap (is_among (d ∷ b ∷ w ∷ [])) same ∙ is
    by false is (inr j) apart rest = rest j apart

record IsNone (d b w v : List ℕ) : Type 0 where
  not_disk : v ≢ d
  not_base : v ≢ b
  not_twin : v ≢ w

none_of : (d b w v : List ℕ) → is_among (d ∷ b ∷ w ∷ []) v ≡ false → IsNone d b w v
none_of d b w v none = record {
  not_disk = λ same. true≢false (sym (ap (λ x. x || (bytes_eq b v || (bytes_eq w v || false))) (same_bytes same)) ∙ none);
  not_base = λ same. true≢false (sym (or_true (bytes_eq d v) _ (ap (λ x. x || (bytes_eq w v || false)) (same_bytes same))) ∙ none);
  not_twin = λ same. true≢false (sym (or_true (bytes_eq d v) _ (or_true (bytes_eq b v) _ (ap (λ x. x || false) (same_bytes same)))) ∙ none);
}
  where
    same_bytes : {a : List ℕ} → v ≡ a → bytes_eq a v ≡ true
    same_bytes {a} same = ap (bytes_eq a) same ∙ bytes_eq-refl a

    or_true : (x y : Bool) → y ≡ true → (x || y) ≡ true
    or_true true y is = refl
    or_true false y is = is

-- the row of an image of the entry's is that from before, once a fork is undone
row_kept : {s : Site} {t : VolumeTable} (c : IsEndable s t) (xs : List TreeRow) (v : List ℕ) (n : Name) → In v (folding_uuids t) → IsImageOf v n → tree_row (rows_back t xs) n ≡ tree_row xs n
row_kept {s} {t} c xs v n i is = by (head (making t)) refl
  where
    at : (o : Name) → head (making t) ≡ Some o → tree_row (entry_back t (Some o) xs) n ≡ tree_row xs n
    at (Clone d b w) found =
        let none = none_of d b w v (not_among d b w (folding_uuids t) v i (apart_folding (fork_found d b w (staged_end c) found))) in
        fork_kept t d b w v n xs none.not_disk none.not_base none.not_twin is
    at Mgt found = refl
    at (Vhd u) found = refl
    at (Raw u) found = refl
    at (Old u) found = refl
    at (Cbt u) found = refl
    at (Inflate u e) found = refl
    at (Coalesce a p) found = refl
    at (Relink a p) found = refl
    at (Leaf l p) found = refl

    by : (o : Option Name) → head (making t) ≡ o → tree_row (rows_back t xs) n ≡ tree_row xs n
    by None none = ap (λ ys. tree_row ys n) (rows_none t xs none)
    by (Some o) found = ap (λ ys. tree_row ys n) (rows_some t xs o found) ∙ at o found

-- ---- the link

-- a parent of this UUID in memory
record IsOver (xs : List TreeRow) (p : List ℕ) (y : TreeRow) : Type 0 where
  name : Name
  linked : parent_name y.image ≡ Some name
  uuid : has_uuid p name ≡ true
  row : TreeRow
  there : tree_row xs name ≡ Some row
  as_large : sector_count y.image ≤ sector_count row.image

over_of : (xs : List TreeRow) (p : List ℕ) (y : TreeRow) → has_parent_in xs p (nat_le (sector_count y.image)) y.image ≡ true → IsOver xs p y
over_of xs p y is = by (parent_name y.image) refl is
  where
    at : (q : Name) → parent_name y.image ≡ Some q → has_uuid p q ≡ true → (o : Option TreeRow) → tree_row xs q ≡ o
        → elim o as (λ _. Bool) [ None ↦ false | Some z ↦ nat_le (sector_count y.image) (sector_count z.image) ] ≡ true → IsOver xs p y
    at q linked uuid None none large = absurd (true≢false (sym large))
    at q linked uuid (Some z) there large = record { name = q; linked = linked; uuid = uuid; row = z; there = there; as_large = leb-true (sector_count y.image) (sector_count z.image) large }

    by : (o : Option Name) → parent_name y.image ≡ o → elim o as (λ _. Bool) [ None ↦ false | Some q ↦ has_uuid p q && is_as_large_in xs (nat_le (sector_count y.image)) q ] ≡ true → IsOver xs p y
    by None none h = absurd (true≢false (sym h))
    by (Some q) linked h = let parts = and_parts (has_uuid p q) (is_as_large_in xs (nat_le (sector_count y.image)) q) h in at q linked parts.0 (tree_row xs q) refl parts.1

record IsChildOver (xs : List TreeRow) (v p : List ℕ) : Type 0 where
  row : TreeRow
  there : tree_row xs (Vhd v) ≡ Some row
  over : IsOver xs p row

child_of : (xs : List TreeRow) (v p : List ℕ) → is_link_in xs v p ≡ true → IsChildOver xs v p
child_of xs v p is = by (tree_row xs (Vhd v)) refl is
  where
    by : (o : Option TreeRow) → tree_row xs (Vhd v) ≡ o → elim o as (λ _. Bool) [ None ↦ false | Some y ↦ has_parent_in xs p (nat_le (sector_count y.image)) y.image ] ≡ true → IsChildOver xs v p
    by None none h = absurd (true≢false (sym h))
    by (Some y) there h = record { row = y; there = there; over = over_of xs p y h }

-- by its UUID it is of one of two names
uuid_of : (p : List ℕ) (n : Name) → has_uuid p n ≡ true → IsImageOf p n
unfolding same_image
uuid_of p (Vhd u) h = inl (ap Vhd (bytes_eq-same u p (⊎_elim (λ is. is) (λ is. absurd (true≢false (sym is))) (or_cases (bytes_eq u p) false h))))
uuid_of p (Raw u) h = inr (ap Raw (bytes_eq-same u p h))
uuid_of p _ h = absurd (true≢false (sym h))

-- a hidden volume is there
hidden_row : (t : VolumeTable) (n : Name) (r : Row) → rows t n ≡ Some r → is_hidden t n ≡ true → r.hidden ≡ true
hidden_row t n r there is = (and_parts r.hidden (not r.fresh) (sym (ap (of_row (λ r. r.hidden && not r.fresh)) there) ∙ is)).0

module _ {S : Type 0} (g : Ghosts S) (store : S) (xs : List TreeRow) (places : List (Option Record)) {t : VolumeTable} (c : IsEndable (g.site store) t) (are : AreRowsOf (read_volumes t) xs)
    (each : HasEachRow g.told (stored_with g store (shortened t)) (read_volumes t) xs) (long : length places ≡ place_count)
    (pass : (x : Outline) → HasTable (g.site store).geometry t x → HasLinks xs x → HasPlaces places x → PassesButLeaf x) where
  abbrev seen : Outline
  seen = checked.seen g store xs places (staged_end c) are each long pass

  links : HasLinks xs seen
  links = checked.links g store xs places (staged_end c) are each long pass

  volumes : HasVolumes xs seen
  unfolding outline_in
  volumes = volumes_seen g store (staged_end c) xs each are seen refl

  -- the image has the parent, by memory
  child_there : (v p : List ℕ) (r : Row) → In r t.volumes → r.name ≡ Relink v p → IsChildOver xs v p
  child_there v p r i named =
      child_of xs v p
      (link_seen xs seen links volumes v p ∙ ap (is_entry_linked seen) (sym named) ∙ checked.linked g store xs places (staged_end c) are each long pass r i)

  -- an image of the parent's UUID is the parent by name
  parent_as : (p : List ℕ) (n : Name) → IsImageOf p n → (r : Row) → rows t n ≡ Some r → n ≡ parent_of t p
  unfolding image_with
  parent_as p n (inl is) r there =
      is ∙ sym (ap (λ b. elim (cond b (Some (Vhd p)) (cond (is_there t (Raw p)) (Some (Raw p)) None)) as (λ _. Name) [ None ↦ Vhd p | Some m ↦ m ]) (ap is_some (ap (rows t) (sym is) ∙ there)))
  parent_as p n (inr is) r there =
      let at : rows t (Raw p) ≡ Some r = ap (rows t) (sym is) ∙ there in
      let named : r.name ≡ Raw p = row_of-name t.volumes (Raw p) r at in
      let twin : (is_there t (Vhd p) || not (are_past t (Raw p))) ≡ false = sym (ap (λ m. is_data m && (has_twin t m || not (are_past t m))) named) ∙ c.named r (row_of-In t.volumes (Raw p) r at).0 in
      is ∙ sym (ap₂ (λ a b. elim (cond a (Some (Vhd p)) (cond b (Some (Raw p)) None)) as (λ _. Name) [ None ↦ Vhd p | Some m ↦ m ]) (first_false (is_there t (Vhd p)) _ twin) (ap is_some at))
    where
      first_false : (a b : Bool) → (a || b) ≡ false → a ≡ false
      first_false false b h = refl
      first_false true b h = absurd (true≢false h)

  -- a row of a hidden volume is hidden
  shown_as : (y : TreeRow) (n : Name) → tree_row xs n ≡ Some y → is_hidden t n ≡ true → y.hidden ≡ true
  shown_as y n there is =
      let v = In-tree_row xs n y there in
      let k = has_volume (staged_end c) are y v.0 in
      k.hidden ∙ hidden_row t n k.volume (ap (rows t) (sym v.1) ∙ k.there) is

  pub linked_right : IsLinkRight t (rows_back t xs)
  unfolding is_at_stage outline_in
  linked_right v p found =
      let f = first_folding t (Relink v p) c.known found in
      let k = child_there v p f.row f.there f.named in
      let y = In-tree_row xs (Vhd v) k.row k.there in
      let h = checked.parent_there g store xs places (staged_end c) are each long pass k.row k.over.name y.0 k.over.linked in
      let same : h.row ≡ k.over.row = same_Some h.row k.over.row (sym h.there ∙ k.over.there) in
      let z = In-tree_row xs k.over.name k.over.row k.over.there in
      let q = has_volume (staged_end c) are k.over.row z.0 in
      let is : k.over.name ≡ parent_of t p = parent_as p k.over.name (uuid_of p k.over.name k.over.uuid) q.volume (ap (rows t) (sym z.1) ∙ q.there) in
      let uuids : folding_uuids t ≡ v ∷ p ∷ [] = ap (λ o. elim o as (λ _. List (List ℕ)) [ None ↦ [] | Some n ↦ uuids_in n ]) found in
      let stage = and_parts (is_at_stage t (Relink v p)) (are_past t (Relink v p)) (not_false _ (sym (ap (λ n. is_entry n && not (is_at_stage t n && are_past t n)) f.named) ∙ c.at_stage f.row f.there)) in
      let small : sector_count k.over.row.image ≤ sector_count k.row.image = subst (λ (r : TreeRow). sector_count r.image ≤ sector_count k.row.image) same h.not_larger in
      record {
        child = k.row;
        there = row_kept c xs v (Vhd v) (subst (In v) (sym uuids) (inl refl)) (inl refl) ∙ k.there;
        hidden = shown_as k.row (Vhd v) k.there (and_parts (is_hidden t (Vhd v)) (is_hidden t (Vhd p) || is_hidden t (Raw p)) stage.0).0;
        linked = k.over.linked ∙ ap Some is;
        parent = k.over.row;
        parent_there = ap (tree_row (rows_back t xs)) (sym is) ∙ row_kept c xs p k.over.name (subst (In p) (sym uuids) (inr (inl refl))) (uuid_of p k.over.name k.over.uuid) ∙ k.over.there;
        parent_hidden = shown_as k.over.row k.over.name k.over.there h.hidden;
        same_size = let a = k.over.as_large in omega (arith, a, small);
      }
