-- The table while the volume of an image gets more extents: with the entry, with the extents too, and without the entry again.
use Rattle.std.proofs.Common.{◌≡◌, ◌≢◌, ◌⊎◌, inl, inr, suc, ℕ, Bool, true, false, cond, List, [], ◌∷◌, ◌++◌, length, filter, Some, None, refl, sym, ap, ◌∙◌, subst, arith}
use Rattle.std.specs.List.{AllZip}
use Rattle.std.specs.Ordering.{is_lt}
use Rattle.std.proofs.lemmas.List.{length-append}
use Rattle.std.proofs.lemmas.Option.{none-some}
use Rattle.sm_base.specs.Names.{name_cmp}
use Rattle.sm_base.specs.declared.names.Name.{Name}
use Rattle.sm_base.specs.declared.names.Name.TheVariants.{Vhd}
use Rattle.vg_meta.specs.Tables.{Row, extents_in, name_eq, names_of, row_of}
use Rattle.vg_meta.specs.Changes.{grown, put, with_row, without}
use Rattle.vg_meta.proofs.NameLaws.{name_eq-other, name_eq-same, name_eq-true}
use Rattle.common_laws.specs.Lists.{In}
use Rattle.sm_standing.specs.Enlarging.{HasEntry, IsAtLeast}
use Rattle.sm_standing.specs.Enlarging.HasEntry.{here, next}
use Rattle.sm_standing.proofs.UndoneLaws.{all_themselves, at_least_itself}

-- ---- an entry comes, and goes

-- it has no extents
pub extents_put : (r : Row) (rs : List Row) → r.extents ≡ [] → extents_in (put r rs) ≡ extents_in rs
unfolding put
extents_put r [] none = ap (λ es. es ++ []) none
extents_put r (s ∷ rs) none = by (is_lt (name_cmp r.name s.name)) (extents_put r rs none)
  where
    by : (b : Bool) → extents_in (put r rs) ≡ extents_in rs → extents_in (cond b (r ∷ s ∷ rs) (s ∷ put r rs)) ≡ extents_in (s ∷ rs)
    by true rest = ap (λ es. es ++ extents_in (s ∷ rs)) none
    by false rest = ap (λ es. s.extents ++ es) rest

-- a name that no volume has is that of none of them
absent : (s : Row) (rs : List Row) (e : Name) → row_of (s ∷ rs) e ≡ None → (name_eq s.name e ≡ false) × (row_of rs e ≡ None)
unfolding row_of
absent s rs e none = by (name_eq s.name e) refl none
  where
    by : (b : Bool) → name_eq s.name e ≡ b → cond b (Some s) (row_of rs e) ≡ None → (name_eq s.name e ≡ false) × (row_of rs e ≡ None)
    by true is h = absurd (none-some s (sym h))
    by false is h = (is, h)

-- put in and taken out again
without_put : (r : Row) (rs : List Row) → row_of rs r.name ≡ None → without r.name (put r rs) ≡ rs
unfolding put without
without_put r [] none = ap (λ b. cond b [] (r ∷ [])) (name_eq-same r.name r.name refl)
without_put r (s ∷ rs) none = by (is_lt (name_cmp r.name s.name)) (without_put r rs (absent s rs r.name none).1)
  where
    by : (b : Bool) → without r.name (put r rs) ≡ rs → without r.name (cond b (r ∷ s ∷ rs) (s ∷ put r rs)) ≡ s ∷ rs
    by true rest = ap (λ c. cond c (s ∷ rs) (r ∷ without r.name (s ∷ rs))) (name_eq-same r.name r.name refl)
    by false rest = ap (λ c. cond c (put r rs) (s ∷ without r.name (put r rs))) (absent s rs r.name none).0 ∙ ap (λ qs. s ∷ qs) rest

-- and one of the volumes changed in between
pub changed_between : (n : Name) (f : Row → Row) (r : Row) (rs : List Row) → ((s : Row) → (f s).name ≡ s.name) → r.name ≢ n → row_of rs r.name ≡ None
    → without r.name (with_row n f (put r rs)) ≡ with_row n f rs
unfolding put without with_row
changed_between n f r [] named other none =
    ap (λ b. without r.name (cond b (f r ∷ []) (r ∷ []))) (name_eq-other r.name n other) ∙ ap (λ b. cond b [] (r ∷ [])) (name_eq-same r.name r.name refl)
changed_between n f r (s ∷ rs) named other none = by (is_lt (name_cmp r.name s.name)) (changed_between n f r rs named other (absent s rs r.name none).1)
  where
    apart : name_eq s.name r.name ≡ false
    apart = (absent s rs r.name none).0

    behind : (b : Bool) → without r.name (with_row n f (put r rs)) ≡ with_row n f rs → without r.name (cond b (f s ∷ put r rs) (s ∷ with_row n f (put r rs))) ≡ cond b (f s ∷ rs) (s ∷ with_row n f rs)
    behind true rest =
        ap (λ c. cond c (put r rs) (f s ∷ without r.name (put r rs))) (ap (λ k. name_eq k r.name) (named s) ∙ apart)
        ∙ ap (λ qs. f s ∷ qs) (without_put r rs (absent s rs r.name none).1)
    behind false rest = ap (λ c. cond c (with_row n f (put r rs)) (s ∷ without r.name (with_row n f (put r rs)))) apart ∙ ap (λ qs. s ∷ qs) rest

    by : (b : Bool) → without r.name (with_row n f (put r rs)) ≡ with_row n f rs → without r.name (with_row n f (cond b (r ∷ s ∷ rs) (s ∷ put r rs))) ≡ with_row n f (s ∷ rs)
    by true rest =
        ap (λ c. without r.name (cond c (f r ∷ s ∷ rs) (r ∷ with_row n f (s ∷ rs)))) (name_eq-other r.name n other)
        ∙ ap (λ c. cond c (with_row n f (s ∷ rs)) (r ∷ without r.name (with_row n f (s ∷ rs)))) (name_eq-same r.name r.name refl)
    by false rest = behind (name_eq s.name n) rest

-- ---- how many volumes have names of a kind

pub named_put : (test : Name → Bool) (r : Row) (rs : List Row) → length (filter test (names_of (put r rs))) ≡ length (filter test (r.name ∷ names_of rs))
unfolding put
named_put test r [] = refl
named_put test r (s ∷ rs) = by (is_lt (name_cmp r.name s.name)) (named_put test r rs)
  where
    swap : (a b : Bool) (ms ns : List Name) → length ms ≡ length (cond b (r.name ∷ ns) ns) → length (cond a (s.name ∷ ms) ms) ≡ length (cond b (r.name ∷ cond a (s.name ∷ ns) ns) (cond a (s.name ∷ ns) ns))
    swap true true ms ns h = ap suc h
    swap true false ms ns h = ap suc h
    swap false true ms ns h = h
    swap false false ms ns h = h

    by : (b : Bool) → length (filter test (names_of (put r rs))) ≡ length (filter test (r.name ∷ names_of rs)) → length (filter test (names_of (cond b (r ∷ s ∷ rs) (s ∷ put r rs)))) ≡ length (filter test (r.name ∷ s.name ∷ names_of rs))
    by true rest = refl
    by false rest = swap (test s.name) (test r.name) (filter test (names_of (put r rs))) (filter test (names_of rs)) rest

-- a volume behind such a change is one from before, or one that was changed
pub In-with_row : (n : Name) (f : Row → Row) (rs : List Row) (r : Row) → In r (with_row n f rs) → (q : Row) × In q rs × ((r ≡ q) ⊎ (r ≡ f q))
unfolding with_row
In-with_row n f [] r i = absurd i
In-with_row n f (s ∷ rs) r i = by (name_eq s.name n) (λ j. In-with_row n f rs r j) i
  where
    by : (b : Bool) → (In r (with_row n f rs) → (q : Row) × In q rs × ((r ≡ q) ⊎ (r ≡ f q))) → In r (cond b (f s ∷ rs) (s ∷ with_row n f rs)) → (q : Row) × In q (s ∷ rs) × ((r ≡ q) ⊎ (r ≡ f q))
    by true rest (inl is) = (s, inl refl, inr is)
    by true rest (inr j) = (r, inr j, inl refl)
    by false rest (inl is) = (s, inl refl, inl is)
    by false rest (inr j) = let w = rest j in (w.0, inr w.1, w.2)

-- ---- the same volumes, one of them with more extents, and the entry

module _ (u : List ℕ) where
  pub entry_put : (r : Row) (rs : List Row) → HasEntry r.name u rs (put r rs)
  unfolding put
  entry_put r [] = here r [] [] refl tt
  entry_put r (s ∷ rs) = by (is_lt (name_cmp r.name s.name)) (entry_put r rs)
    where
      by : (b : Bool) → HasEntry r.name u rs (put r rs) → HasEntry r.name u (s ∷ rs) (cond b (r ∷ s ∷ rs) (s ∷ put r rs))
      by true rest = here r (s ∷ rs) (s ∷ rs) refl (all_themselves u (s ∷ rs))
      by false rest = next s s rs (put r rs) (at_least_itself u s) rest

  module _ (es : List ℕ) where
    at_least_grown : (q r : Row) → r.name ≡ Vhd u → IsAtLeast u q r → IsAtLeast u q (grown es r)
    at_least_grown q r own one = record {
      name = one.name;
      hidden = one.hidden;
      fresh = one.fresh;
      more = let was = one.more in omega (arith, was, length-append r.extents es);
      same = λ other. absurd (other (sym one.name ∙ own));
    }

    zip_grown : (qs rs : List Row) → AllZip (IsAtLeast u) qs rs → AllZip (IsAtLeast u) qs (with_row (Vhd u) (grown es) rs)
    unfolding with_row
    zip_grown [] [] same = tt
    zip_grown (q ∷ qs) (r ∷ rs) same = by (name_eq r.name (Vhd u)) refl (zip_grown qs rs same.1)
      where
        by : (b : Bool) → name_eq r.name (Vhd u) ≡ b → AllZip (IsAtLeast u) qs (with_row (Vhd u) (grown es) rs) → AllZip (IsAtLeast u) (q ∷ qs) (cond b (grown es r ∷ rs) (r ∷ with_row (Vhd u) (grown es) rs))
        by true is rest = (at_least_grown q r (name_eq-true r.name (Vhd u) is) same.0, same.1)
        by false is rest = (same.0, rest)
    zip_grown [] (r ∷ rs) same = absurd same
    zip_grown (q ∷ qs) [] same = absurd same

    pub entry_grown : (e : Name) (qs rs : List Row) → e ≢ Vhd u → HasEntry e u qs rs → HasEntry e u qs (with_row (Vhd u) (grown es) rs)
    unfolding with_row
    entry_grown e qs [] other there = elim there [ ]
    entry_grown e qs (r ∷ rs) other (here _ _ _ is same) =
        subst (λ b. HasEntry e u qs (cond b (grown es r ∷ rs) (r ∷ with_row (Vhd u) (grown es) rs))) (sym (name_eq-other r.name (Vhd u) (λ own. other (sym is ∙ own))))
        (here r qs (with_row (Vhd u) (grown es) rs) is (zip_grown qs rs same))
    entry_grown e (q ∷ qs) (r ∷ rs) other (next _ _ _ _ one rest) = by (name_eq r.name (Vhd u)) refl (entry_grown e qs rs other rest)
      where
        by : (b : Bool) → name_eq r.name (Vhd u) ≡ b → HasEntry e u qs (with_row (Vhd u) (grown es) rs) → HasEntry e u (q ∷ qs) (cond b (grown es r ∷ rs) (r ∷ with_row (Vhd u) (grown es) rs))
        by true is further = next q (grown es r) qs rs (at_least_grown q r (name_eq-true r.name (Vhd u) is) one) rest
        by false is further = next q r qs (with_row (Vhd u) (grown es) rs) one further
