-- A table with one log more, one log less, or a log marked is alike but for logs.
use Rattle.std.proofs.Common.{◌≡◌, ◌≢◌, ℕ, ◌<◌, ◌≤◌, ◌^◌, Bool, true, false, ◌⊎◌, cond, List, [], ◌∷◌, ◌++◌, refl, sym, ap, ◌∙◌, inl, inr, arith}
use Rattle.std.specs.List.{filter, flat_map}
use Rattle.std.specs.Ordering.{is_lt}
use Rattle.std.proofs.lemmas.Bool.{true≢false}
use Rattle.common_laws.specs.Lists.{In}
use Rattle.sm_base.specs.Names.{name_cmp}
use Rattle.sm_base.specs.Kinds.{is_log}
use Rattle.sm_base.specs.declared.names.Name.{Name}
use Rattle.sm_base.specs.declared.names.Name.TheVariants.{Mgt, Vhd, Raw, Old, Cbt, Clone, Inflate, Coalesce, Relink, Leaf}
use Rattle.vg_meta.specs.Tables.{VolumeTable, Row, name_eq}
use Rattle.vg_meta.specs.Changes.{applied, made, put, raised, tagged, with_row, without}
use Rattle.vg_meta.specs.declared.changes.Change.{Change}
use Rattle.vg_meta.specs.declared.changes.Change.TheVariants.{Create, Remove, Rename, Grow, Cut, Mark}
use Rattle.vg_meta.specs.declared.changes.Tag.{Tag}
use Rattle.vg_meta.specs.declared.changes.Tag.TheVariants.{Hidden, Fresh}
use Rattle.vg_meta.proofs.NameLaws.{name_eq-true}
use Rattle.vg_meta.proofs.RowLaws.{row_of-put_other, row_of-without_other, row_of-with_row_other}
use Rattle.sm_standing.specs.Contents.{Content}
use Rattle.sm_standing.specs.Images.{image_of}
use Rattle.sm_standing.specs.Outlines.{outline}
use Rattle.sm_standing.specs.Standing.{candidates}
use Rattle.sm_log_rows.specs.LogRows.{AreApartFromLogs, HasNoLogLink, IsOfLog}
use Rattle.sm_log_rows.proofs.ApartLaws.{filter_more}

-- the UUIDs that the volumes speak of
abbrev spoken : List Row → List (List ℕ)
spoken rs = flat_map (λ (r : Row). candidates r.name) rs

log_speaks : (n : Name) → is_log n ≡ true → candidates n ≡ []
log_speaks (Cbt u) h = refl
log_speaks Mgt h = absurd (let e = h in cc)
log_speaks (Vhd u) h = absurd (let e = h in cc)
log_speaks (Raw u) h = absurd (let e = h in cc)
log_speaks (Old u) h = absurd (let e = h in cc)
log_speaks (Clone d e c) h = absurd (let e = h in cc)
log_speaks (Inflate u n) h = absurd (let e = h in cc)
log_speaks (Coalesce c p) h = absurd (let e = h in cc)
log_speaks (Relink c p) h = absurd (let e = h in cc)
log_speaks (Leaf l p) h = absurd (let e = h in cc)

apart : (n m : Name) → is_log n ≡ true → is_log m ≡ false → n ≢ m
apart n m log other same = true≢false (sym log ∙ ap is_log same ∙ other)

spoken_step : (r s : Row) (rs : List Row) (b : Bool) → candidates r.name ≡ [] → flat_map (λ (r : Row). candidates r.name) (put r rs) ≡ flat_map (λ (r : Row). candidates r.name) rs
    → flat_map (λ (r : Row). candidates r.name) (cond b (r ∷ s ∷ rs) (s ∷ put r rs)) ≡ flat_map (λ (r : Row). candidates r.name) (s ∷ rs)
spoken_step r s rs true h more = ap (λ (us : List (List ℕ)). us ++ flat_map (λ (r : Row). candidates r.name) (s ∷ rs)) h
spoken_step r s rs false h more = ap (λ (us : List (List ℕ)). candidates s.name ++ us) more

spoken_more : (r : Row) (rs : List Row) → candidates r.name ≡ [] → flat_map (λ (r : Row). candidates r.name) (put r rs) ≡ flat_map (λ (r : Row). candidates r.name) rs
unfolding put
spoken_more r [] h = ap (λ (us : List (List ℕ)). us ++ []) h
spoken_more r (s ∷ rs) h = spoken_step r s rs (is_lt (name_cmp r.name s.name)) h (spoken_more r rs h)

put_step : (x s r : Row) (rs : List Row) (b : Bool) → (In r (put x rs) → (r ≡ x) ⊎ In r rs) → In r (cond b (x ∷ s ∷ rs) (s ∷ put x rs)) → (r ≡ x) ⊎ In r (s ∷ rs)
put_step x s r rs true ih (inl is) = inl is
put_step x s r rs true ih (inr j) = inr j
put_step x s r rs false ih (inl is) = inr (inl is)
put_step x s r rs false ih (inr j) = elim (ih j) [ inl is ↦ inl is | inr i ↦ inr (inr i) ]

In-put : (x r : Row) (rs : List Row) → In r (put x rs) → (r ≡ x) ⊎ In r rs
unfolding put
In-put x r [] (inl is) = inl is
In-put x r [] (inr none) = absurd none
In-put x r (s ∷ rs) i = put_step x s r rs (is_lt (name_cmp x.name s.name)) (In-put x r rs) i

-- ---- one log less

less_filter : (t : Row → Bool) (n : Name) (rs : List Row) → is_log n ≡ true → ((r : Row) → is_log r.name ≡ true → t r ≡ false) → filter t (without n rs) ≡ filter t rs
unfolding without
less_filter t n [] log none = refl
less_filter t n (r ∷ rs) log none = by (name_eq r.name n) refl (less_filter t n rs log none)
  where
    by : (b : Bool) → name_eq r.name n ≡ b → filter t (without n rs) ≡ filter t rs → filter t (cond b rs (r ∷ without n rs)) ≡ filter t (r ∷ rs)
    by true e rest = let is : is_log r.name ≡ true = ap is_log (name_eq-true r.name n e) ∙ log in sym (ap (λ (b : Bool). cond b (r ∷ filter t rs) (filter t rs)) (none r is))
    by false e rest = ap (λ (xs : List Row). cond (t r) (r ∷ xs) xs) rest

less_spoken : (n : Name) (rs : List Row) → is_log n ≡ true → spoken (without n rs) ≡ spoken rs
unfolding without
less_spoken n [] log = refl
less_spoken n (r ∷ rs) log = by (name_eq r.name n) refl (less_spoken n rs log)
  where
    by : (b : Bool) → name_eq r.name n ≡ b → spoken (without n rs) ≡ spoken rs → spoken (cond b rs (r ∷ without n rs)) ≡ spoken (r ∷ rs)
    by true e rest = let is : is_log r.name ≡ true = ap is_log (name_eq-true r.name n e) ∙ log in sym (ap (λ (us : List (List ℕ)). us ++ spoken rs) (log_speaks r.name is))
    by false e rest = ap (λ (us : List (List ℕ)). candidates r.name ++ us) rest

pub less_in : (n : Name) (s : Row) (rs : List Row) → In s (without n rs) → In s rs
unfolding without
less_in n s [] i = i
less_in n s (r ∷ rs) i = by (name_eq r.name n) (less_in n s rs) i
  where
    by : (b : Bool) → (In s (without n rs) → In s rs) → In s (cond b rs (r ∷ without n rs)) → In s (r ∷ rs)
    by true rest i = inr i
    by false rest (inl is) = inl is
    by false rest (inr j) = inr (rest j)

-- ---- a log marked

marked_filter : (t : Row → Bool) (n : Name) (f : Row → Row) (rs : List Row) → is_log n ≡ true → ((r : Row) → (f r).name ≡ r.name) → ((r : Row) → is_log r.name ≡ true → t r ≡ false)
    → filter t (with_row n f rs) ≡ filter t rs
unfolding with_row
marked_filter t n f [] log keeps none = refl
marked_filter t n f (r ∷ rs) log keeps none = by (name_eq r.name n) refl (marked_filter t n f rs log keeps none)
  where
    by : (b : Bool) → name_eq r.name n ≡ b → filter t (with_row n f rs) ≡ filter t rs → filter t (cond b (f r ∷ rs) (r ∷ with_row n f rs)) ≡ filter t (r ∷ rs)
    by true e rest =
        let is : is_log r.name ≡ true = ap is_log (name_eq-true r.name n e) ∙ log in
        ap (λ (b : Bool). cond b (f r ∷ filter t rs) (filter t rs)) (none (f r) (ap is_log (keeps r) ∙ is)) ∙ sym (ap (λ (b : Bool). cond b (r ∷ filter t rs) (filter t rs)) (none r is))
    by false e rest = ap (λ (xs : List Row). cond (t r) (r ∷ xs) xs) rest

marked_spoken : (n : Name) (f : Row → Row) (rs : List Row) → ((r : Row) → (f r).name ≡ r.name) → spoken (with_row n f rs) ≡ spoken rs
unfolding with_row
marked_spoken n f [] keeps = refl
marked_spoken n f (r ∷ rs) keeps = by (name_eq r.name n) (marked_spoken n f rs keeps)
  where
    by : (b : Bool) → spoken (with_row n f rs) ≡ spoken rs → spoken (cond b (f r ∷ rs) (r ∷ with_row n f rs)) ≡ spoken (r ∷ rs)
    by true rest = ap (λ (m : Name). candidates m ++ spoken rs) (keeps r)
    by false rest = ap (λ (us : List (List ℕ)). candidates r.name ++ us) rest

marked_in : (n : Name) (f : Row → Row) (s : Row) (rs : List Row) → is_log n ≡ true → ((r : Row) → (f r).name ≡ r.name) → In s (with_row n f rs) → (is_log s.name ≡ true) ⊎ In s rs
unfolding with_row
marked_in n f s [] log keeps i = inr i
marked_in n f s (r ∷ rs) log keeps i = by (name_eq r.name n) refl (marked_in n f s rs log keeps) i
  where
    by : (b : Bool) → name_eq r.name n ≡ b → (In s (with_row n f rs) → (is_log s.name ≡ true) ⊎ In s rs) → In s (cond b (f r ∷ rs) (r ∷ with_row n f rs)) → (is_log s.name ≡ true) ⊎ In s (r ∷ rs)
    by true e rest (inl is) = inl (ap (λ (x : Row). is_log x.name) is ∙ ap is_log (keeps r ∙ name_eq-true r.name n e) ∙ log)
    by true e rest (inr j) = inr (inr j)
    by false e rest (inl is) = inr (inl is)
    by false e rest (inr j) = elim (rest j) [ inl is ↦ inl is | inr i ↦ inr (inr i) ]

-- ---- a change of a log's row

tag_keeps : (tag : Tag) (on : Bool) (r : Row) → (tagged tag on r).name ≡ r.name
tag_keeps Hidden on r = refl
tag_keeps Fresh on r = refl

no_lower : (k : ℕ) → k < 2 ^ 48 → k ≤ raised k
no_lower k low = omega (arith, low)

pub apart_from_logs : (t : VolumeTable) (c : Change) → IsOfLog c → t.sequence < 2 ^ 48 → AreApartFromLogs t (applied t c)
apart_from_logs t (Create name fresh extents) log low =
    let r : Row = made name fresh extents in
    record {
      same = λ m other. row_of-put_other t.volumes r m (apart name m log other);
      kept = λ test none. filter_more test r t.volumes (none r log);
      among = λ s i. elim (In-put r s t.volumes i) [ inl is ↦ inl (ap (λ (y : Row). is_log y.name) is ∙ log) | inr j ↦ inr j ];
      spoken = spoken_more r t.volumes (log_speaks name log);
      later = no_lower t.sequence low;
    }
apart_from_logs t (Remove name) log low = record {
  same = λ m other. row_of-without_other t.volumes name m (apart name m log other);
  kept = λ test none. less_filter test name t.volumes log none;
  among = λ s i. inr (less_in name s t.volumes i);
  spoken = less_spoken name t.volumes log;
  later = no_lower t.sequence low;
}
apart_from_logs t (Rename from to) log low = absurd log
apart_from_logs t (Grow name extents) log low = absurd log
apart_from_logs t (Cut name keep) log low = absurd log
apart_from_logs t (Mark name tag on) log low = record {
  same = λ m other. row_of-with_row_other t.volumes name m (tagged tag on) (tag_keeps tag on) (apart name m log other);
  kept = λ test none. marked_filter test name (tagged tag on) t.volumes log (tag_keeps tag on) none;
  among = λ s i. marked_in name (tagged tag on) s t.volumes log (tag_keeps tag on) i;
  spoken = marked_spoken name (tagged tag on) t.volumes (tag_keeps tag on);
  later = no_lower t.sequence low;
}

-- a log is no image
pub no_link : (c : Content) → HasNoLogLink (outline c)
unfolding image_of
no_link c u = refl
