-- Entries in their order: without those of some sectors, with one of them in front, with one more.
use Rattle.std.proofs.Common.{◌≡◌, inl, inr, ℕ, ◌+◌, ◌-◌, Bool, true, false, not, cond, ◌&&◌, ◌||◌, List, [], ◌∷◌, take, Option, Some, None, is_some, refl, sym, ap, ap₂, subst, ◌∙◌}
use Rattle.std.specs.List.{AllByRecursion, IsDistinct, filter, list_any}
use Rattle.std.specs.Map.{keys_of, lookup, lookup_entry, remove_entry}
use Rattle.std.specs.Option.{option_map_or}
use Rattle.std.proofs.lemmas.Bool.{false≢true}
use Rattle.common_laws.specs.Lists.{In}
use Rattle.lru.specs.LruCache.{lru_cache, promoted, put_entries}
use Rattle.sm_base.specs.declared.names.Name.{Name}
use Rattle.sm_cache.specs.declared.keys.Spot.{Spot}
use Rattle.sm_cache.specs.Kept.{Entries, Kept, in_front, is_among, others, same_spot, spot_of, with_entry}
use Rattle.sm_cache.proofs.SpotLaws.{among_none, among_one, not_among_more, spot_same}

-- ---- lists

-- a filter through which all pass
filter_all : {A : Type 0} (p : A → Bool) (xs : List A) → ((x : A) → In x xs → p x ≡ true) → filter p xs ≡ xs
filter_all p [] all = refl
filter_all p (x ∷ xs) all =
    ap (λ b. cond b (x ∷ filter p xs) (filter p xs)) (all x (inl refl)) ∙ ap (λ ys. x ∷ ys) (filter_all p xs (λ y there. all y (inr there)))

filter_step : {A : Type 0} (p : A → Bool) (x : A) (ys zs : List A) (a r : Bool) → r ≡ (a && p x) → filter p ys ≡ zs → filter p (cond a (x ∷ ys) ys) ≡ cond r (x ∷ zs) zs
filter_step p x ys zs true r is same = ap (λ l. cond (p x) (x ∷ l) l) same ∙ ap (λ b. cond b (x ∷ zs) zs) (sym is)
filter_step p x ys zs false r is same = same ∙ ap (λ b. cond b (x ∷ zs) zs) (sym is)

-- two filters one after the other are one
filter_twice : {A : Type 0} (p q r : A → Bool) → ((x : A) → r x ≡ (q x && p x)) → (xs : List A) → filter p (filter q xs) ≡ filter r xs
filter_twice p q r same [] = refl
filter_twice p q r same (x ∷ xs) = filter_step p x (filter q xs) (filter r xs) (q x) (r x) (same x) (filter_twice p q r same xs)

-- what holds of each key holds of an entry's
key_of : (P : Spot → Type 0) (es : Entries) (e : Spot × List ℕ) → AllByRecursion P (keys_of es) → In e es → P e.0
key_of P [] e all there = absurd there
key_of P (f ∷ es) e all (inl same) = subst (λ (x : Spot × List ℕ). P x.0) (sym same) all.0
key_of P (f ∷ es) e all (inr there) = key_of P es e all.1 there

-- ---- without the entry of one sector

-- where no sector has two entries, the first of a sector is the one
pub removed_one : (volume : Name) (at : ℕ) (es : Entries) → IsDistinct same_spot (keys_of es)
    → remove_entry (same_spot (spot_of volume at)) es ≡ others volume at 1 es
unfolding IsDistinct
removed_one volume at [] apart = refl
removed_one volume at (e ∷ es) apart = by (removed_one volume at es apart.1) (same_spot (spot_of volume at) e.0) refl
  where
    rest : Entries
    rest = others volume at 1 es

    among : (b : Bool) → same_spot (spot_of volume at) e.0 ≡ b → is_among volume at 1 e.0 ≡ b
    among b h = sym (among_one volume at e.0) ∙ h

    -- each other entry is of another sector
    other : same_spot (spot_of volume at) e.0 ≡ true → (f : Spot × List ℕ) → In f es → not (is_among volume at 1 f.0) ≡ true
    other h f there =
        let first = spot_same (spot_of volume at) e.0 h in
        ap not (sym (among_one volume at f.0) ∙ subst (λ (q : Spot). same_spot q f.0 ≡ false) (sym first) (key_of (λ q. same_spot e.0 q ≡ false) es f apart.0 there))

    by : remove_entry (same_spot (spot_of volume at)) es ≡ rest → (b : Bool) → same_spot (spot_of volume at) e.0 ≡ b
        → cond b es (e ∷ remove_entry (same_spot (spot_of volume at)) es) ≡ cond (not (is_among volume at 1 e.0)) (e ∷ rest) rest
    by ih true h = sym (filter_all (λ f. not (is_among volume at 1 f.0)) es (other h)) ∙ ap (λ b. cond (not b) (e ∷ rest) rest) (sym (among true h))
    by ih false h = ap (λ l. e ∷ l) ih ∙ ap (λ b. cond (not b) (e ∷ rest) rest) (sym (among false h))

-- ---- without the entries of some sectors

-- where none of the entries is of these sectors
pub others_all : (volume : Name) (at many : ℕ) (es : Entries) → list_any (λ e. is_among volume at many e.0) es ≡ false → es ≡ others volume at many es
others_all volume at many [] none = refl
others_all volume at many (e ∷ es) none = by (is_among volume at many e.0) refl none (others_all volume at many es)
  where
    rest : Entries
    rest = others volume at many es

    by : (b : Bool) → is_among volume at many e.0 ≡ b → (b || list_any (λ f. is_among volume at many f.0) es) ≡ false
        → (list_any (λ f. is_among volume at many f.0) es ≡ false → es ≡ rest) → (e ∷ es) ≡ cond (not (is_among volume at many e.0)) (e ∷ rest) rest
    by true is none ih = absurd (false≢true (sym none))
    by false is none ih = ap (λ l. e ∷ l) (ih none) ∙ ap (λ b. cond (not b) (e ∷ rest) rest) (sym is)

pub others_none : (volume : Name) (at : ℕ) (es : Entries) → es ≡ others volume at 0 es
others_none volume at es = sym (filter_all (λ e. not (is_among volume at 0 e.0)) es (λ e there. ap not (among_none volume at e.0)))

-- and of one sector more
pub others_more : (volume : Name) (at many : ℕ) (old mid new : Kept) → mid ≡ lru_cache (others volume at many old.entries) old.cap → IsDistinct same_spot (keys_of mid.entries)
    → new ≡ lru_cache (remove_entry (same_spot (spot_of volume (at + many))) mid.entries) mid.cap → new ≡ lru_cache (others volume at (many + 1) old.entries) old.cap
others_more volume at many old mid new so_far apart is =
    is ∙ ap (λ es. lru_cache es mid.cap) (removed_one volume (at + many) mid.entries apart)
    ∙ ap (λ (k : Kept). lru_cache (others volume (at + many) 1 k.entries) k.cap) so_far
    ∙ ap (λ es. lru_cache es old.cap)
    (filter_twice (λ e. not (is_among volume (at + many) 1 e.0)) (λ e. not (is_among volume at many e.0)) (λ e. not (is_among volume at (many + 1) e.0))
    (λ e. not_among_more volume at many e.0) old.entries)

-- ---- look-ups

-- the entry that is found is the sector's
found_entry : (spot : Spot) (es : Entries) (v : List ℕ) → lookup (same_spot spot) es ≡ Some v → lookup_entry (same_spot spot) es ≡ Some (spot, v)
found_entry spot [] v h = cc
found_entry spot (e ∷ es) v h = by (found_entry spot es v) (same_spot spot e.0) refl h
  where
    by : (lookup (same_spot spot) es ≡ Some v → lookup_entry (same_spot spot) es ≡ Some (spot, v)) → (b : Bool) → same_spot spot e.0 ≡ b
        → cond b (Some e.1) (lookup (same_spot spot) es) ≡ Some v → cond b (Some e) (lookup_entry (same_spot spot) es) ≡ Some (spot, v)
    by ih true is found = let value : e.1 ≡ v = cc in ap (λ (x : Spot × List ℕ). Some x) (ap₂ (λ (q : Spot) (w : List ℕ). (q, w)) (sym (spot_same spot e.0 is)) value)
    by ih false is found = ih found

no_entry : (spot : Spot) (es : Entries) → lookup (same_spot spot) es ≡ None → lookup_entry (same_spot spot) es ≡ None
no_entry spot [] h = refl
no_entry spot (e ∷ es) h = by (no_entry spot es) (same_spot spot e.0) h
  where
    by : (lookup (same_spot spot) es ≡ None → lookup_entry (same_spot spot) es ≡ None) → (b : Bool)
        → cond b (Some e.1) (lookup (same_spot spot) es) ≡ None → cond b (Some e) (lookup_entry (same_spot spot) es) ≡ None
    by ih true found = cc
    by ih false found = ih found

pub some_found : (o : Option (List ℕ)) → is_some o ≡ true → (v : List ℕ) × (o ≡ Some v)
some_found (Some v) h = (v, refl)
some_found None h = absurd (false≢true h)

pub none_found : (o : Option (List ℕ)) → is_some o ≡ false → o ≡ None
none_found (Some v) h = absurd (false≢true (sym h))
none_found None h = refl

-- ---- what a use of an entry makes of all

-- a kept sector that is read again
pub front_promoted : (kept : Kept) (volume : Name) (at : ℕ) (v : List ℕ) → IsDistinct same_spot (keys_of kept.entries) → lookup (same_spot (spot_of volume at)) kept.entries ≡ Some v
    → lru_cache (promoted (same_spot (spot_of volume at)) kept.entries) kept.cap ≡ in_front volume at v kept
front_promoted kept volume at v apart found =
    ap (λ o. lru_cache (option_map_or (λ e. e ∷ remove_entry (same_spot (spot_of volume at)) kept.entries) o kept.entries) kept.cap) (found_entry (spot_of volume at) kept.entries v found)
    ∙ ap (λ es. lru_cache ((spot_of volume at, v) ∷ es) kept.cap) (removed_one volume at kept.entries apart)

-- a kept sector that gets other bytes
pub front_put : (kept : Kept) (volume : Name) (at : ℕ) (v bytes : List ℕ) → IsDistinct same_spot (keys_of kept.entries) → lookup (same_spot (spot_of volume at)) kept.entries ≡ Some v
    → lru_cache (put_entries same_spot kept (spot_of volume at) bytes) kept.cap ≡ in_front volume at bytes kept
front_put kept volume at v bytes apart found =
    ap (λ o. lru_cache (option_map_or (λ e. (e.0, bytes) ∷ remove_entry (same_spot (spot_of volume at)) kept.entries) o ((spot_of volume at, bytes) ∷ take (kept.cap - 1) kept.entries)) kept.cap)
    (found_entry (spot_of volume at) kept.entries v found)
    ∙ ap (λ es. lru_cache ((spot_of volume at, bytes) ∷ es) kept.cap) (removed_one volume at kept.entries apart)

-- a sector that was not kept
pub entered_put : (kept : Kept) (volume : Name) (at : ℕ) (bytes : List ℕ) → lookup (same_spot (spot_of volume at)) kept.entries ≡ None
    → lru_cache (put_entries same_spot kept (spot_of volume at) bytes) kept.cap ≡ with_entry volume at bytes kept
entered_put kept volume at bytes none =
    ap (λ o. lru_cache (option_map_or (λ e. (e.0, bytes) ∷ remove_entry (same_spot (spot_of volume at)) kept.entries) o ((spot_of volume at, bytes) ∷ take (kept.cap - 1) kept.entries)) kept.cap)
    (no_entry (spot_of volume at) kept.entries none)
