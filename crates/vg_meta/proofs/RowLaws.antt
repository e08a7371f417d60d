-- Volumes by name, and the extents of all volumes, after each change of the list.
use Rattle.std.proofs.Common.{◌≡◌, ◌≢◌, Bool, true, false, cond, List, [], ◌∷◌, Option, Some, None, refl, sym, ap, subst, ◌∙◌}
use Rattle.std.specs.declared.cmp.Ordering.TheVariants.{Less}
use Rattle.std.specs.List.{AllByRecursion}
use Rattle.std.specs.List.Sorted.{IsStrictlySortedBy}
use Rattle.std.specs.Ordering.{is_lt}
use Rattle.std.proofs.lemmas.Bool.{cond_both}
use Rattle.sm_base.specs.declared.names.Name.{Name}
use Rattle.sm_base.specs.Names.{name_cmp, IsName}
use Rattle.vg_meta.specs.Tables.{Row, row_of, name_eq, names_of}
use Rattle.vg_meta.specs.Changes.{put, without, with_row}
use Rattle.sm_base.proofs.OrderLemmas.{name_cmp_total}
use Rattle.vg_meta.proofs.NameLaws.{name_eq-true, name_eq-same, name_eq-other, name_eq-false, before_from, less_from, less_other}

-- ---- a look-up

-- the name of what is found
pub row_of-name : (rs : List Row) (n : Name) (r : Row) → row_of rs n ≡ Some r → r.name ≡ n
unfolding row_of
row_of-name [] n r h = absurd cc
row_of-name (s ∷ rs) n r h =
    cond_both (name_eq s.name n) (Some s) (row_of rs n) (λ (o : Option Row). o ≡ Some r → r.name ≡ n)
    (λ e k. let same : s ≡ r = cc in ap (λ (x : Row). x.name) (sym same) ∙ name_eq-true s.name n e)
    (λ e k. row_of-name rs n r k) h

-- a look-up at a head of this name, and of another
at_head : (s : Row) (x : Option Row) (n : Name) → s.name ≡ n → cond (name_eq s.name n) (Some s) x ≡ Some s
at_head s x n e = rw (name_eq-same s.name n e) refl

past_head : (s : Row) (x : Option Row) (n : Name) → s.name ≢ n → cond (name_eq s.name n) (Some s) x ≡ x
past_head s x n e = rw (name_eq-other s.name n e) refl

none_parts : (b : Bool) (s : Row) (x : Option Row) → cond b (Some s) x ≡ None → (b ≡ false) × (x ≡ None)
none_parts true s x h = absurd cc
none_parts false s x h = (refl, h)

none_head : (s : Row) (rs : List Row) (n : Name) → row_of (s ∷ rs) n ≡ None → (s.name ≢ n) × (row_of rs n ≡ None)
unfolding row_of
none_head s rs n h = let p = none_parts (name_eq s.name n) s (row_of rs n) h in (name_eq-false s.name n p.0, p.1)

-- what holds of each volume holds of the one that is found
pub All-row_of : (P : Row → Type 0) (rs : List Row) (n : Name) (r : Row) → AllByRecursion P rs → row_of rs n ≡ Some r → P r
unfolding row_of
All-row_of P [] n r all h = absurd cc
All-row_of P (s ∷ rs) n r all h =
    cond_both (name_eq s.name n) (Some s) (row_of rs n) (λ (o : Option Row). o ≡ Some r → P r)
    (λ e k. let same : s ≡ r = cc in subst P same all.0)
    (λ e k. All-row_of P rs n r all.1 k) h

-- ---- one volume more

pub row_of-put_same : (rs : List Row) (r : Row) → row_of rs r.name ≡ None → row_of (put r rs) r.name ≡ Some r
unfolding row_of put
row_of-put_same [] r h = at_head r None r.name refl
row_of-put_same (s ∷ rs) r h =
    let p = none_head s rs r.name h in
    cond_both (is_lt (name_cmp r.name s.name)) (r ∷ s ∷ rs) (s ∷ put r rs) (λ (l : List Row). row_of l r.name ≡ Some r)
    (λ e. at_head r (row_of (s ∷ rs) r.name) r.name refl)
    (λ e. past_head s (row_of (put r rs) r.name) r.name p.0 ∙ row_of-put_same rs r p.1)

pub row_of-put_other : (rs : List Row) (r : Row) (n : Name) → r.name ≢ n → row_of (put r rs) n ≡ row_of rs n
unfolding row_of put
row_of-put_other [] r n other = past_head r None n other
row_of-put_other (s ∷ rs) r n other =
    cond_both (is_lt (name_cmp r.name s.name)) (r ∷ s ∷ rs) (s ∷ put r rs) (λ (l : List Row). row_of l n ≡ row_of (s ∷ rs) n)
    (λ e. past_head r (row_of (s ∷ rs) n) n other)
    (λ e. ap (λ (o : Option Row). cond (name_eq s.name n) (Some s) o) (row_of-put_other rs r n other))

pub All-put : (P : Row → Type 0) (rs : List Row) (r : Row) → P r → AllByRecursion P rs → AllByRecursion P (put r rs)
unfolding put
All-put P [] r one all = (one, tt)
All-put P (s ∷ rs) r one all =
    cond_both (is_lt (name_cmp r.name s.name)) (r ∷ s ∷ rs) (s ∷ put r rs) (λ (l : List Row). AllByRecursion P l)
    (λ e. (one, all)) (λ e. (all.0, All-put P rs r one all.1))

-- ---- one volume less

pub row_of-without_other : (rs : List Row) (m n : Name) → m ≢ n → row_of (without m rs) n ≡ row_of rs n
unfolding row_of without
row_of-without_other [] m n other = refl
row_of-without_other (s ∷ rs) m n other =
    cond_both (name_eq s.name m) rs (s ∷ without m rs) (λ (l : List Row). row_of l n ≡ row_of (s ∷ rs) n)
    (λ e. sym (past_head s (row_of rs n) n (λ k. other (sym (name_eq-true s.name m e) ∙ k))))
    (λ e. ap (λ (o : Option Row). cond (name_eq s.name n) (Some s) o) (row_of-without_other rs m n other))

pub All-without : (P : Row → Type 0) (rs : List Row) (n : Name) → AllByRecursion P rs → AllByRecursion P (without n rs)
unfolding without
All-without P [] n all = tt
All-without P (s ∷ rs) n all =
    cond_both (name_eq s.name n) rs (s ∷ without n rs) (λ (l : List Row). AllByRecursion P l)
    (λ e. all.1) (λ e. (all.0, All-without P rs n all.1))

-- ---- a volume changed

pub row_of-with_row_same : (rs : List Row) (n : Name) (f : Row → Row) (r : Row) → ((s : Row) → (f s).name ≡ s.name) → row_of rs n ≡ Some r
    → row_of (with_row n f rs) n ≡ Some (f r)
unfolding row_of with_row
row_of-with_row_same [] n f r keeps h = absurd cc
row_of-with_row_same (s ∷ rs) n f r keeps h =
    cond_both (name_eq s.name n) (f s ∷ rs) (s ∷ with_row n f rs) (λ (l : List Row). row_of l n ≡ Some (f r))
    (λ e. let named = name_eq-true s.name n e in
    let same : s ≡ r = let k = sym (at_head s (row_of rs n) n named) ∙ h in cc in
    at_head (f s) (row_of rs n) n (keeps s ∙ named) ∙ ap (λ (x : Row). Some (f x)) same)
    (λ e. let other = name_eq-false s.name n e in
    past_head s (row_of (with_row n f rs) n) n other ∙ row_of-with_row_same rs n f r keeps (sym (past_head s (row_of rs n) n other) ∙ h))

pub row_of-with_row_other : (rs : List Row) (m n : Name) (f : Row → Row) → ((s : Row) → (f s).name ≡ s.name) → m ≢ n
    → row_of (with_row m f rs) n ≡ row_of rs n
unfolding row_of with_row
row_of-with_row_other [] m n f keeps other = refl
row_of-with_row_other (s ∷ rs) m n f keeps other =
    cond_both (name_eq s.name m) (f s ∷ rs) (s ∷ with_row m f rs) (λ (l : List Row). row_of l n ≡ row_of (s ∷ rs) n)
    (λ e. let named = name_eq-true s.name m e in
    past_head (f s) (row_of rs n) n (λ k. other (sym (keeps s ∙ named) ∙ k))
    ∙ sym (past_head s (row_of rs n) n (λ k. other (sym named ∙ k))))
    (λ e. ap (λ (o : Option Row). cond (name_eq s.name n) (Some s) o) (row_of-with_row_other rs m n f keeps other))

pub All-with_row : (P : Row → Type 0) (rs : List Row) (n : Name) (f : Row → Row) (r : Row) → row_of rs n ≡ Some r → P (f r)
    → AllByRecursion P rs → AllByRecursion P (with_row n f rs)
unfolding row_of with_row
All-with_row P [] n f r h one all = absurd cc
All-with_row P (s ∷ rs) n f r h one all =
    cond_both (name_eq s.name n) (f s ∷ rs) (s ∷ with_row n f rs) (λ (l : List Row). AllByRecursion P l)
    (λ e. let same : s ≡ r = let k = sym (at_head s (row_of rs n) n (name_eq-true s.name n e)) ∙ h in cc in
    (subst (λ (x : Row). P (f x)) (sym same) one, all.1))
    (λ e. (all.0, All-with_row P rs n f r (sym (past_head s (row_of rs n) n (name_eq-false s.name n e)) ∙ h) one all.1))

pub names_of-with_row : (rs : List Row) (n : Name) (f : Row → Row) → ((s : Row) → (f s).name ≡ s.name) → names_of (with_row n f rs) ≡ names_of rs
unfolding with_row
names_of-with_row [] n f keeps = refl
names_of-with_row (s ∷ rs) n f keeps =
    cond_both (name_eq s.name n) (f s ∷ rs) (s ∷ with_row n f rs) (λ (l : List Row). names_of l ≡ names_of (s ∷ rs))
    (λ e. ap (λ (x : Name). x ∷ names_of rs) (keeps s))
    (λ e. ap (λ (l : List Name). s.name ∷ l) (names_of-with_row rs n f keeps))

-- ---- the order of names

pub All-names : (Q : Name → Type 0) (rs : List Row) → AllByRecursion (λ (r : Row). Q r.name) rs → AllByRecursion Q (names_of rs)
All-names Q [] all = tt
All-names Q (r ∷ rs) all = (all.0, All-names Q rs all.1)

pub All-rows : (Q : Name → Type 0) (rs : List Row) → AllByRecursion Q (names_of rs) → AllByRecursion (λ (r : Row). Q r.name) rs
All-rows Q [] all = tt
All-rows Q (r ∷ rs) all = (all.0, All-rows Q rs all.1)

-- a name in front of all volumes' names is none of them
pub none_from_front : (rs : List Row) (n : Name) → AllByRecursion (λ (m : Name). name_cmp n m ≡ Less) (names_of rs) → row_of rs n ≡ None
unfolding row_of
none_from_front [] n all = refl
none_from_front (s ∷ rs) n all =
    past_head s (row_of rs n) n (λ e. less_other n s.name all.0 (sym e)) ∙ none_from_front rs n all.1

-- what is in front of a name is in front of those behind it
pub front_of : (a b : Name) (ns : List Name) → name_cmp a b ≡ Less → AllByRecursion (λ (m : Name). name_cmp b m ≡ Less) ns
    → AllByRecursion (λ (m : Name). name_cmp a m ≡ Less) ns
front_of a b [] h all = tt
front_of a b (n ∷ ns) h all = (name_cmp_total.trans a b n h all.0, front_of a b ns h all.1)

abbrev pub IsRising : List Row → Type 0
IsRising rs = IsStrictlySortedBy name_cmp (names_of rs)

pub rising-put : (rs : List Row) (r : Row) → IsName r.name → AllByRecursion (λ (s : Row). IsName s.name) rs → row_of rs r.name ≡ None
    → IsRising rs → IsRising (put r rs)
unfolding put IsStrictlySortedBy
rising-put [] r is each h rising = (tt, tt)
rising-put (s ∷ rs) r is each h rising =
    let p = none_head s rs r.name h in
    cond_both (is_lt (name_cmp r.name s.name)) (r ∷ s ∷ rs) (s ∷ put r rs) (λ (l : List Row). (is_lt (name_cmp r.name s.name) ≡ false → name_cmp s.name r.name ≡ Less) → IsRising l)
    (λ e _. let first = less_from r.name s.name e in ((first, front_of r.name s.name (names_of rs) first rising.0), rising))
    (λ e behind.
    let after = behind e in (
      All-names (λ (m : Name). name_cmp s.name m ≡ Less) (put r rs)
          (All-put (λ (x : Row). name_cmp s.name x.name ≡ Less) rs r after (All-rows (λ (m : Name). name_cmp s.name m ≡ Less) rs rising.0)),
      rising-put rs r is each.1 p.1 rising.1,
    ))
    (λ e. before_from r.name s.name is each.0 (λ k. p.0 (sym k)) e)

pub rising-without : (rs : List Row) (n : Name) → IsRising rs → IsRising (without n rs)
unfolding without IsStrictlySortedBy
rising-without [] n rising = tt
rising-without (s ∷ rs) n rising =
    cond_both (name_eq s.name n) rs (s ∷ without n rs) (λ (l : List Row). IsRising l)
    (λ e. rising.1)
    (λ e. (
      All-names (λ (m : Name). name_cmp s.name m ≡ Less) (without n rs)
          (All-without (λ (x : Row). name_cmp s.name x.name ≡ Less) rs n (All-rows (λ (m : Name). name_cmp s.name m ≡ Less) rs rising.0)),
      rising-without rs n rising.1,
    ))

-- in a list in order a volume that is taken out is gone
pub row_of-without_same : (rs : List Row) (n : Name) → IsRising rs → row_of (without n rs) n ≡ None
unfolding row_of without IsStrictlySortedBy
row_of-without_same [] n rising = refl
row_of-without_same (s ∷ rs) n rising =
    cond_both (name_eq s.name n) rs (s ∷ without n rs) (λ (l : List Row). row_of l n ≡ None)
    (λ e. subst (λ (m : Name). row_of rs m ≡ None) (name_eq-true s.name n e) (none_from_front rs s.name rising.0))
    (λ e. past_head s (row_of (without n rs) n) n (name_eq-false s.name n e) ∙ row_of-without_same rs n rising.1)
