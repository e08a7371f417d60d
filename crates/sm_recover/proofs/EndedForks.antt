-- Once the folding of a leaf is ended an entry of a fork is found as before, with its base: it has no UUID of the leaf or of its parent.
use Rattle.std.proofs.Common.{◌≡◌, ◌≢◌, ◌⊎◌, inl, inr, ℕ, Bool, true, false, cond, ◌||◌, List, [], ◌∷◌, length, Option, Some, None, is_some, refl, sym, ap, ap₂, ◌∙◌, subst}
use Rattle.std.specs.List.{list_any}
use Rattle.std.specs.Str.{bytes_eq}
use Rattle.std.proofs.lemmas.Bool.{true≢false}
use Rattle.common_laws.proofs.Booleans.{not_true}
use Rattle.common_laws.proofs.Bytes.{bytes_eq-refl}
use Rattle.sm_base.specs.declared.names.Name.{Name}
use Rattle.sm_base.specs.declared.names.Name.TheVariants.{Mgt, Vhd, Raw, Old, Cbt, Clone, Inflate, Coalesce, Relink, Leaf}
use Rattle.vg_meta.specs.Tables.{VolumeTable, rows}
use Rattle.vg_volumes.specs.Sites.{Site}
use Rattle.vg_volumes.specs.declared.stores.Store.{Ghosts}
use Rattle.sm_record.specs.declared.records.Record.{Record}
use Rattle.sm_mgt.specs.Places.{place_count}
use Rattle.sm_standing.specs.Checks.{fault_of}
use Rattle.sm_standing.specs.Entries.{folding, head, image_with, is_among, is_leaf_renamed, making, uuids_in}
use Rattle.sm_standing.specs.Opened.{ended}
use Rattle.sm_standing.specs.Outlines.{Outline}
use Rattle.sm_standing.proofs.LeafEnds.{corner_or_not, ended_making, ended_unmade}
use Rattle.sm_standing.proofs.LeafRows.{ended_other, ended_same, same_making}
use Rattle.vhd_chain.specs.Trees.{without}
use Rattle.vhd_chain.specs.declared.rows.TreeRow.{TreeRow}
use Rattle.sm_recover.specs.Backs.{CanGiveBack, IsFreeAgain, entry_back, fork_back, rows_back}
use Rattle.sm_recover.specs.Ending.{rows_ended, unleafed}
use Rattle.sm_recover.specs.Repairs.{HasFewLogs}
use Rattle.sm_checks.specs.Faults.{HasLinks, HasPlaces, HasTable}
use Rattle.sm_checks.specs.Loaded.{AreRowsOf, HasEachRow, read_volumes, shortened, stored_with}
use Rattle.sm_checks.specs.Openable.{IsOpenable}
use Rattle.sm_recover.proofs.EndedMemory as memory
use Rattle.sm_recover.proofs.EndedThen.{as_was, is_then, of_leaf}
use Rattle.sm_checks.proofs.EntryLaws.{apart_folding, fork_found, staged_open}
use Rattle.sm_recover.proofs.UndoTables.{staged_end}
use Rattle.sm_recover.proofs.RowsLaws.{can_give_back}

-- a UUID among these is none of which that is said
among_one : (b v : List ℕ) (rest : Bool) → (bytes_eq b v || rest) ≡ false → b ≢ v
among_one b v rest none is = true≢false (sym (ap (λ x. x || rest) (bytes_eq-refl v)) ∙ sym (ap (λ u. bytes_eq u v || rest) is) ∙ none)

second_none : (x y : Bool) → (x || y) ≡ false → y ≡ false
second_none false y h = h
second_none true y h = absurd (true≢false h)

first_none : (x y : Bool) → (x || y) ≡ false → x ≡ false
first_none false y h = refl
first_none true y h = absurd (true≢false h)

-- what a fork gives back depends on the base that is found
pub same_back : (t u : VolumeTable) (ys : List TreeRow) (o : Option Name) → ((d b w : List ℕ) → o ≡ Some (Clone d b w) → image_with u b ≡ image_with t b) → entry_back u o ys ≡ entry_back t o ys
same_back t u ys None base = refl
same_back t u ys (Some (Clone d b w)) base = ap (λ o. fork_back o d (without (Vhd w) ys)) (base d b w refl)
same_back t u ys (Some Mgt) base = refl
same_back t u ys (Some (Vhd v)) base = refl
same_back t u ys (Some (Raw v)) base = refl
same_back t u ys (Some (Old v)) base = refl
same_back t u ys (Some (Cbt v)) base = refl
same_back t u ys (Some (Inflate v e)) base = refl
same_back t u ys (Some (Coalesce v p)) base = refl
same_back t u ys (Some (Relink v p)) base = refl
same_back t u ys (Some (Leaf l p)) base = refl

module _ {S : Type 0} (g : Ghosts S) (store : S) (xs : List TreeRow) (places : List (Option Record)) {t : VolumeTable} (c : IsOpenable (g.site store) t) (few : HasFewLogs t) (are : AreRowsOf (read_volumes t) xs)
    (each : HasEachRow g.told (stored_with g store (shortened t)) (read_volumes t) xs) (long : length places ≡ place_count)
    (pass : (x : Outline) → HasTable (g.site store).geometry t x → HasLinks xs x → HasPlaces places x → fault_of x ≡ None) where
  abbrev s : Site
  s = g.site store

  module _ (l p : List ℕ) (found : head (folding t) ≡ Some (Leaf l p)) where
    abbrev x : Outline
    x = memory.seen g store xs places c are each long pass

    abbrev u : VolumeTable
    u = ended t

    -- the base is neither the leaf nor its parent
    apart : (d b w : List ℕ) → head (making t) ≡ Some (Clone d b w) → (b ≢ l) × (b ≢ p)
    apart d b w forks =
        let f = fork_found d b w (staged_open c) forks in
        let none = not_true _ (apart_folding f) in
        let both : (is_among (d ∷ b ∷ w ∷ []) l || (is_among (d ∷ b ∷ w ∷ []) p || false)) ≡ false =
        sym (ap (λ o. list_any (is_among (d ∷ b ∷ w ∷ [])) (elim o as (λ _. List (List ℕ)) [ None ↦ [] | Some n ↦ uuids_in n ])) found) ∙ none in
        let of_l = first_none _ _ both in
        let of_p = first_none _ _ (second_none (is_among (d ∷ b ∷ w ∷ []) l) _ both) in
        (among_one b l _ (second_none (bytes_eq d l) _ of_l), among_one b p _ (second_none (bytes_eq d p) _ of_p))

    row_same : (n : Name) → n ≢ Vhd l → n ≢ Vhd p → n ≢ Old l → n ≢ Leaf l p → ((e : ℕ) → n ≢ Inflate p e) → rows u n ≡ rows t n
    row_same n own other old entry enlarged = by (is_leaf_renamed t l p) refl
      where
        by : (a : Bool) → is_leaf_renamed t l p ≡ a → rows u n ≡ rows t n
        by true is = ended_other s.count x (memory.sound g store xs places c are each long pass) c.table (memory.homes g store xs places c are each long pass x) l p (memory.one g store xs places c are each long pass l p found) is
            n own other old entry (λ e made. enlarged e)
        by false is = ended_same s.count x (memory.sound g store xs places c are each long pass) c.table (memory.homes g store xs places c are each long pass x) l p (memory.one g store xs places c are each long pass l p found) is
            n own old entry

    base_same : (d b w : List ℕ) → head (making t) ≡ Some (Clone d b w) → image_with u b ≡ image_with t b
    unfolding image_with
    base_same d b w forks =
        let k = apart d b w forks in
        ap₂ (λ v r. cond (is_some v) (Some (Vhd b)) (cond (is_some r) (Some (Raw b)) None))
        (row_same (Vhd b) (λ h. k.0 (let y = h in cc)) (λ h. k.1 (let y = h in cc)) (λ h. let y = h in cc) (λ h. let y = h in cc) (λ e h. let y = h in cc))
        (row_same (Raw b) (λ h. let y = h in cc) (λ h. let y = h in cc) (λ h. let y = h in cc) (λ h. let y = h in cc) (λ e h. let y = h in cc))

    -- the other entry is as it was, or it was that of an enlargement of the parent and has gone
    entry_then : (making u ≡ making t) ⊎ ((e : ℕ) × (making t ≡ Inflate p e ∷ []) × (making u ≡ []))
    entry_then = by (is_leaf_renamed t l p) refl
      where
        of : is_leaf_renamed t l p ≡ true → ((e : ℕ) → making t ≢ Inflate p e ∷ []) ⊎ ((e : ℕ) × (making t ≡ Inflate p e ∷ [])) → (making u ≡ making t) ⊎ ((e : ℕ) × (making t ≡ Inflate p e ∷ []) × (making u ≡ []))
        of is (inl free) = inl (ended_making s.count x (memory.sound g store xs places c are each long pass) c.table (memory.homes g store xs places c are each long pass x) l p
            (memory.one g store xs places c are each long pass l p found) (λ e renamed. free e))
        of is (inr (e, made)) = inr (
          e,
          made,
          ended_unmade s.count x (memory.sound g store xs places c are each long pass) c.table (memory.homes g store xs places c are each long pass x) l p
              (memory.one g store xs places c are each long pass l p found) e is made,
        )

        by : (a : Bool) → is_leaf_renamed t l p ≡ a → (making u ≡ making t) ⊎ ((e : ℕ) × (making t ≡ Inflate p e ∷ []) × (making u ≡ []))
        by true is = of is (corner_or_not s.count x (memory.sound g store xs places c are each long pass) c.table (memory.homes g store xs places c are each long pass x) l p (memory.one g store xs places c are each long pass l p found))
        by false is = inl (same_making s.count x (memory.sound g store xs places c are each long pass) c.table (memory.homes g store xs places c are each long pass x) l p (memory.one g store xs places c are each long pass l p found) is)

    -- so what a fork gives back is the same
    leaf_backs : (ys : List TreeRow) → rows_back u ys ≡ rows_back t ys
    unfolding rows_back
    leaf_backs ys = by entry_then
      where
        by : (making u ≡ making t) ⊎ ((e : ℕ) × (making t ≡ Inflate p e ∷ []) × (making u ≡ [])) → entry_back u (head (making u)) ys ≡ entry_back t (head (making t)) ys
        by (inl same) = ap (λ ns. entry_back u (head ns) ys) same ∙ same_back t u ys (head (making t)) base_same
        by (inr (e, made, none)) = ap (λ ns. entry_back u (head ns) ys) none ∙ sym (ap (λ ns. entry_back t (head ns) ys) made)

    leaf_gives : (ys : List TreeRow) → CanGiveBack u ys → CanGiveBack t ys
    leaf_gives ys can d b w forks from there = by entry_then
      where
        by : (making u ≡ making t) ⊎ ((e : ℕ) × (making t ≡ Inflate p e ∷ []) × (making u ≡ [])) → IsFreeAgain d ys
        by (inl same) = can d b w (ap head same ∙ forks) from (base_same d b w forks ∙ there)
        by (inr (e, made, none)) = absurd (let y = sym (ap head made) ∙ forks in cc)

  -- in either case
  pub ends_back : (ys : List TreeRow) → rows_back (unleafed t) ys ≡ rows_back t ys
  ends_back ys = of_leaf g store xs places c few are each long pass (rows_back (unleafed t) ys ≡ rows_back t ys)
      (λ l p found. ap (λ v. rows_back v ys) (memory.unleafed_is g store xs places c are each long pass l p found) ∙ leaf_backs l p found ys)
      (λ other. ap (λ v. rows_back v ys) (as_was g store xs places c few are each long pass other))

  pub records_same : rows (unleafed t) Mgt ≡ rows t Mgt
  records_same = of_leaf g store xs places c few are each long pass (rows (unleafed t) Mgt ≡ rows t Mgt)
      (λ l p found. ap (λ v. rows v Mgt) (memory.unleafed_is g store xs places c are each long pass l p found)
      ∙ row_same l p found Mgt (λ h. let y = h in cc) (λ h. let y = h in cc) (λ h. let y = h in cc) (λ h. let y = h in cc) (λ e h. let y = h in cc))
      (λ other. ap (λ v. rows v Mgt) (as_was g store xs places c few are each long pass other))

  pub can_back : CanGiveBack t (rows_ended t xs)
  can_back =
      let k = is_then g store xs places c few are each long pass in
      let can = can_give_back (rows_ended t xs) (staged_end k.checked) k.are in
      of_leaf g store xs places c few are each long pass (CanGiveBack t (rows_ended t xs))
      (λ l p found. leaf_gives l p found (rows_ended t xs) (subst (λ v. CanGiveBack v (rows_ended t xs)) (memory.unleafed_is g store xs places c are each long pass l p found) can))
      (λ other. subst (λ v. CanGiveBack v (rows_ended t xs)) (as_was g store xs places c few are each long pass other) can)
