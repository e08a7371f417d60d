-- Laws of the places of a device in memory.
use Rattle.std.proofs.Common.{◌≡◌, ◌≢◌, ℕ, ◌-◌, ◌⊎◌, inl, inr, Bool, true, false, cond, eqb, eq-eqb, List, [], ◌∷◌, ◌++◌, length, Contains, Option, Some, None, unwrap_or, Result, Ok, Err, OnOk, OnErr, sym, refl, ap, ◌∙◌, subst, arith}
use Rattle.std.specs.Map.{lookup, values_of}
use Rattle.std.specs.Map.Calls.{RetainsPairs}
use Rattle.std.specs.BTreeMap.{is_at}
use Rattle.std.specs.Ordering.{nat_cmp}
use Rattle.std.specs.Cmp.{unsigned_tied}
use Rattle.std.specs.Option.{option_map, IfSome}
use Rattle.std.proofs.lemmas.Bool.{cases_eq}
use Rattle.std.proofs.lemmas.Bool.Decides.{nat_tests}
use Rattle.std.proofs.lemmas.List.Elements.{All-nil, All-cons, All-head, All-tail, All-push, All-contains}
use Rattle.std.proofs.lemmas.Map.Views.{IfSome-lookup_from_All}
use Rattle.sm_disk.specs.Sectors.{IsSector, sector, zeros}
use Rattle.sm_disk.specs.Held.{Wrote, SameHeld, Keeps, IsSettled, HasSectors, newest}
use Rattle.sm_disk.specs.Memory.{HeldPlace, blank, settled, all_settled, WrittenPlaces, slot_at, held_by, HoldsSectors, AllSectors}
use Rattle.sm_disk.proofs.SectorLaws.{sector-one, IsSector-zeros}
use Rattle.sm_disk.proofs.HeldLaws.{in_one, newest_among}

pub is_at-same : (p q : ℕ) → p ≡ q → is_at (nat_cmp p) q ≡ true
is_at-same p q same = unsigned_tied p q ∙ eq-eqb p q same

pub is_at-apart : (p q : ℕ) → p ≢ q → is_at (nat_cmp p) q ≡ false
is_at-apart p q apart = unsigned_tied p q ∙ (let no : eqb p q ≡ false = grind (arith, nat_tests) in no)

-- the look-up at each place, after one place was given something
pub record Updated (place : ℕ) (kept : HeldPlace) (old new : WrittenPlaces) : Type 0 where
  pub look : (q : ℕ) → lookup (is_at (nat_cmp q)) new ≡ cond (is_at (nat_cmp place) q) (Some kept) (lookup (is_at (nat_cmp q)) old)

slot_at-same : {place : ℕ} {kept : HeldPlace} {old new : WrittenPlaces} → Updated place kept old new → slot_at new place ≡ kept
unfolding slot_at
slot_at-same {place} {kept} {old} {new} u =
    ap (λ o. unwrap_or o blank) (u.look place ∙ ap (λ b. cond b (Some kept) (lookup (is_at (nat_cmp place)) old)) (is_at-same place place refl))

slot_at-apart : {place : ℕ} {kept : HeldPlace} {old new : WrittenPlaces} → Updated place kept old new → (q : ℕ) → place ≢ q → slot_at new q ≡ slot_at old q
unfolding slot_at
slot_at-apart {place} {kept} {old} {new} u q apart =
    ap (λ o. unwrap_or o blank) (u.look q ∙ ap (λ b. cond b (Some kept) (lookup (is_at (nat_cmp q)) old)) (is_at-apart place q apart))

-- one more value pending at a place
abbrev pub more : HeldPlace → List ℕ → HeldPlace
more k value = record { floor = k.floor; pending = k.pending ++ value ∷ [] }

pub wrote_by_update : (place : ℕ) (value : List ℕ) (old new : WrittenPlaces) → length value ≡ 512
    → Updated place (more (slot_at old place) value) old new → Wrote place value (held_by old) (held_by new)
wrote_by_update place value old new long u = record {
  floor = λ p. floor_at p (cases_eq place p);
  inside = λ p here. inside_at p (in_one place (length value) p long here);
  outside = λ p not_here. ap (λ (k : HeldPlace). k.pending) (slot_at-apart u p (λ same. not_here (omega (arith, same), omega (arith, same, long))));
}
  where
    floor_at : (p : ℕ) → (place ≡ p) ⊎ (place ≢ p) → (slot_at new p).floor ≡ (slot_at old p).floor
    floor_at p (inl same) =
        let P : ℕ → Type 0 = λ q. (slot_at new q).floor ≡ (slot_at old q).floor in
        subst P same (ap (λ (k : HeldPlace). k.floor) (slot_at-same u))
    floor_at p (inr apart) = ap (λ (k : HeldPlace). k.floor) (slot_at-apart u p apart)

    inside_at : (p : ℕ) → p ≡ place → (slot_at new p).pending ≡ (slot_at old p).pending ++ sector value (p - place) ∷ []
    inside_at p same =
        let P : ℕ → Type 0 = λ q. (slot_at new q).pending ≡ (slot_at old q).pending ++ sector value (q - place) ∷ [] in
        let none : 0 ≡ place - place = omega arith in
        subst P (sym same) (ap (λ (k : HeldPlace). k.pending) (slot_at-same u)
        ∙ ap (λ v. (slot_at old place).pending ++ v ∷ []) (sym (sector-one value long) ∙ ap (λ i. sector value i) none))

-- what was there was put back
pub same_by_update : (place : ℕ) (old new : WrittenPlaces) → Updated place (slot_at old place) old new → SameHeld (held_by old) (held_by new)
same_by_update place old new u = record {
  floor = λ p. ap (λ (k : HeldPlace). k.floor) (at_place p (cases_eq place p));
  pending = λ p. ap (λ (k : HeldPlace). k.pending) (at_place p (cases_eq place p));
}
  where
    at_place : (p : ℕ) → (place ≡ p) ⊎ (place ≢ p) → slot_at new p ≡ slot_at old p
    at_place p (inl same) = let P : ℕ → Type 0 = λ q. slot_at new q ≡ slot_at old q in subst P same (slot_at-same u)
    at_place p (inr apart) = slot_at-apart u p apart

pub slot_at-some : (slots : WrittenPlaces) (p : ℕ) (kept : HeldPlace) → Some kept ≡ lookup (is_at (nat_cmp p)) slots → slot_at slots p ≡ kept
unfolding slot_at
slot_at-some slots p kept found = ap (λ o. unwrap_or o blank) (sym found)

pub slot_at-none : (slots : WrittenPlaces) (p : ℕ) → None ≡ lookup (is_at (nat_cmp p)) slots → slot_at slots p ≡ blank
unfolding slot_at
slot_at-none slots p none = ap (λ o. unwrap_or o blank) (sym none)

-- sectors

pub HoldsSectors-more : (k : HeldPlace) (value : List ℕ) → HoldsSectors k → IsSector value → HoldsSectors (more k value)
HoldsSectors-more k value h s = record {
  floor = h.floor;
  pending = All-push (λ v. IsSector v) k.pending value h.pending s;
}

pub HoldsSectors-new : (value : List ℕ) → IsSector value → HoldsSectors (record { floor = zeros; pending = value ∷ [] })
HoldsSectors-new value s = record {
  floor = IsSector-zeros;
  pending = All-cons (λ v. IsSector v) value [] s (All-nil (λ v. IsSector v));
}

HoldsSectors-blank : HoldsSectors blank
HoldsSectors-blank = record { floor = IsSector-zeros; pending = All-nil (λ v. IsSector v) }

pub HoldsSectors-settled : (k : HeldPlace) → HoldsSectors k → HoldsSectors (settled k)
HoldsSectors-settled k h = record {
  floor = by (newest_among k.floor k.pending);
  pending = All-nil (λ v. IsSector v);
}
  where
    by : (newest k.floor k.pending ≡ k.floor) ⊎ Contains k.pending (newest k.floor k.pending) → IsSector (newest k.floor k.pending)
    by (inl same) = let P : List ℕ → Type 0 = λ v. IsSector v in subst P (sym same) h.floor
    by (inr among) = All-contains (λ v. IsSector v) k.pending (newest k.floor k.pending) h.pending among

pub HoldsSectors-found : (slots : WrittenPlaces) (p : ℕ) (kept : HeldPlace) → AllSectors slots → Some kept ≡ lookup (is_at (nat_cmp p)) slots → HoldsSectors kept
HoldsSectors-found slots p kept all found =
    let P : Option HeldPlace → Type 0 = λ o. IfSome o (λ k. HoldsSectors k) in
    subst P (sym found) (IfSome-lookup_from_All (λ k. HoldsSectors k) (is_at (nat_cmp p)) slots all)

pub HoldsSectors-slot_at : (slots : WrittenPlaces) (p : ℕ) → AllSectors slots → HoldsSectors (slot_at slots p)
unfolding slot_at
HoldsSectors-slot_at slots p all = by (lookup (is_at (nat_cmp p)) slots) (IfSome-lookup_from_All (λ k. HoldsSectors k) (is_at (nat_cmp p)) slots all)
  where
    by : (o : Option HeldPlace) → IfSome o (λ k. HoldsSectors k) → HoldsSectors (unwrap_or o blank)
    by None h = HoldsSectors-blank
    by (Some k) h = h

pub HasSectors-held_by : (size : ℕ) (slots : WrittenPlaces) → AllSectors slots → HasSectors size (held_by slots)
HasSectors-held_by size slots all = record {
  floor = λ p below. (HoldsSectors-slot_at slots p all).floor;
  pending = λ p v below among. All-contains (λ v. IsSector v) (slot_at slots p).pending v (HoldsSectors-slot_at slots p all).pending among;
}

-- a sync

lookup-settled : (test : ℕ → Bool) (slots : WrittenPlaces) → lookup test (all_settled slots) ≡ option_map settled (lookup test slots)
lookup-settled test [] = refl
lookup-settled test (e ∷ slots) = by (test e.0) (lookup-settled test slots)
  where
    by : (b : Bool) → lookup test (all_settled slots) ≡ option_map settled (lookup test slots)
        → cond b (Some (settled e.1)) (lookup test (all_settled slots)) ≡ option_map settled (cond b (Some e.1) (lookup test slots))
    by true h = refl
    by false h = h

pub slot_at-settled : (slots : WrittenPlaces) (p : ℕ) → slot_at (all_settled slots) p ≡ settled (slot_at slots p)
unfolding slot_at
slot_at-settled slots p = ap (λ o. unwrap_or o blank) (lookup-settled (is_at (nat_cmp p)) slots) ∙ by (lookup (is_at (nat_cmp p)) slots)
  where
    by : (o : Option HeldPlace) → unwrap_or (option_map settled o) blank ≡ settled (unwrap_or o blank)
    by None = refl
    by (Some k) = refl

pub AllSectors-settled : (slots : WrittenPlaces) → AllSectors slots → AllSectors (all_settled slots)
AllSectors-settled [] all = All-nil (λ k. HoldsSectors k)
AllSectors-settled (e ∷ slots) all =
    All-cons (λ k. HoldsSectors k) (settled e.1) (values_of (all_settled slots))
    (HoldsSectors-settled e.1 (All-head (λ k. HoldsSectors k) e.1 (values_of slots) all))
    (AllSectors-settled slots (All-tail (λ k. HoldsSectors k) e.1 (values_of slots) all))

pub settled_by_sync : (slots : WrittenPlaces) → IsSettled (held_by (all_settled slots))
settled_by_sync slots = λ p. ap (λ (k : HeldPlace). k.pending) (slot_at-settled slots p)

pub keeps_by_sync : (slots : WrittenPlaces) → Keeps (held_by slots) (held_by (all_settled slots))
keeps_by_sync slots = record {
  reads = λ p. ap (λ (k : HeldPlace). newest k.floor k.pending) (slot_at-settled slots p);
  may = λ p v m. by p v (let P : HeldPlace → Type 0 = λ k. (v ≡ k.floor) ⊎ Contains k.pending v in subst P (slot_at-settled slots p) m);
}
  where
    by : (p : ℕ) (v : List ℕ) → (v ≡ newest (slot_at slots p).floor (slot_at slots p).pending) ⊎ Contains [] v → (v ≡ (slot_at slots p).floor) ⊎ Contains (slot_at slots p).pending v
    by p v (inl is) = let P : List ℕ → Type 0 = λ w. (w ≡ (slot_at slots p).floor) ⊎ Contains (slot_at slots p).pending w in
        subst P (sym is) (newest_among (slot_at slots p).floor (slot_at slots p).pending)
    by p v (inr among) = absurd (omega (arith, among.1))

-- a call that adds a value, or fails and leaves the place
pub HoldsSectors-added : {T E : Type 0} (r : Result T E) (k new : HeldPlace) (value : List ℕ) → OnOk r (new ≡ more k value) → OnErr r (new ≡ k)
    → HoldsSectors k → IsSector value → HoldsSectors new
HoldsSectors-added (Ok x) k new value added kept h s = let P : HeldPlace → Type 0 = λ j. HoldsSectors j in subst P (sym added) (HoldsSectors-more k value h s)
HoldsSectors-added (Err x) k new value added kept h s = let P : HeldPlace → Type 0 = λ j. HoldsSectors j in subst P (sym kept) h

-- what `retain` leaves, where the closure settles each place and keeps it
pub settled_by_retain : {F : Type 0} (T : F → ℕ → HeldPlace → Bool → HeldPlace → F → Type 0)
    → ((f : F) (p : ℕ) (k : HeldPlace) (b : Bool) (w : HeldPlace) (f' : F) → T f p k b w f' → (b ≡ true) × (w ≡ settled k))
    → (f : F) (slots left : WrittenPlaces) → RetainsPairs T f slots left → left ≡ all_settled slots
settled_by_retain T told f [] left r = r
settled_by_retain T told f (e ∷ slots) left r =
    let called = told f e.0 e.1 r.0 r.1 r.2 r.4 in
    let rest = settled_by_retain T told r.2 slots r.3 r.5 in
    r.6 ∙ ap (λ b. cond b ((e.0, r.1) ∷ r.3) r.3) called.0 ∙ ap (λ w. (e.0, w) ∷ r.3) called.1 ∙ ap (λ l. (e.0, settled e.1) ∷ l) rest
