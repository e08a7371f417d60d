-- A new volume beside the images goes, or gets more extents, by a commit of its own: memory stays orderly, and no disk changes.
use Rattle.std.proofs.Common.{◌≡◌, ◌⊎◌, inl, inr, suc, ℕ, ◌≤◌, Bool, true, false, cond, List, [], ◌∷◌, length, filter, Option, Some, None, refl, sym, ap, ◌∙◌, subst, arith}
use Rattle.sm_base.specs.Kinds.{is_entry, is_image}
use Rattle.sm_base.specs.declared.names.Name.{Name}
use Rattle.sm_disk.specs.Held.{Held}
use Rattle.vg_meta.specs.Tables.{VolumeTable, Row, IsTable, rows, names_of, name_eq}
use Rattle.vg_meta.specs.Changes.{applied, grown, with_row, without}
use Rattle.vg_meta.specs.declared.changes.Change.TheVariants.{Grow, Remove}
use Rattle.vg_meta.proofs.ByName.{changes_by_name}
use Rattle.vg_meta.proofs.RowLaws.{names_of-with_row}
use Rattle.vg_volumes.specs.Commits.{IsBefore}
use Rattle.vg_volumes.specs.Sites.{Site, area_size}
use Rattle.common_laws.specs.Lists.{In}
use Rattle.sm_standing.specs.Standing.{disks}
use Rattle.sm_ready.specs.Done.{HasDone, IsCommit}
use Rattle.sm_ready.specs.Known.{Known}
use Rattle.sm_ready.specs.Orderly.{IsOrderly}
use Rattle.sm_ready.specs.Ready.{IsReady}
use Rattle.sm_ready.specs.Stores.{Leaving, content_now}
use Rattle.sm_ready.proofs.BesideLaws.{IsAlone, IsBeside, IsNewOrNone, law_beside}
use Rattle.sm_ready.proofs.RemoveLaws.{In-without, names_without, no_journal}

-- ---- the names of those that stay

fewer_step : (b : Bool) (s : Row) (rs rest : List Row) (test : Row → Bool) → length (filter test rest) ≤ length (filter test rs) → length (filter test (cond b rs (s ∷ rest))) ≤ length (filter test (s ∷ rs))
fewer_step b s rs rest test h = by b (test s) refl
  where
    by : (b d : Bool) → test s ≡ d → length (filter test (cond b rs (s ∷ rest))) ≤ length (cond d (s ∷ filter test rs) (filter test rs))
    by true true is = omega arith
    by true false is = omega arith
    by false true is = subst (λ v. length (cond v (s ∷ filter test rest) (filter test rest)) ≤ suc (length (filter test rs))) (sym is) (omega (arith, h))
    by false false is = subst (λ v. length (cond v (s ∷ filter test rest) (filter test rest)) ≤ length (filter test rs)) (sym is) h

pub fewer_left : (test : Row → Bool) (n : Name) (rs : List Row) → length (filter test (without n rs)) ≤ length (filter test rs)
unfolding without
fewer_left test n [] = omega arith
fewer_left test n (s ∷ rs) = fewer_step (name_eq s.name n) s rs (without n rs) test (fewer_left test n rs)

-- volumes are counted by their names
counted : (test : Name → Bool) (rs : List Row) → length (filter (λ (r : Row). test r.name) rs) ≡ length (filter test (names_of rs))
counted test [] = refl
counted test (r ∷ rs) = by (test r.name) (counted test rs)
  where
    by : (b : Bool) → length (filter (λ (r : Row). test r.name) rs) ≡ length (filter test (names_of rs))
        → length (cond b (r ∷ filter (λ (r : Row). test r.name) rs) (filter (λ (r : Row). test r.name) rs)) ≡ length (cond b (r.name ∷ filter test (names_of rs)) (filter test (names_of rs)))
    by true rest = ap suc rest
    by false rest = rest

-- each volume is one from before, or one of these as it was made
In-with_row : (n : Name) (f : Row → Row) (rs : List Row) (r : Row) → In r (with_row n f rs) → (q : Row) × In q rs × ((r ≡ q) ⊎ (r ≡ f q))
unfolding with_row
In-with_row n f [] r i = absurd i
In-with_row n f (s ∷ rs) r i = by (name_eq s.name n) (λ j. In-with_row n f rs r j) i
  where
    by : (b : Bool) → (In r (with_row n f rs) → (q : Row) × In q rs × ((r ≡ q) ⊎ (r ≡ f q))) → In r (cond b (f s ∷ rs) (s ∷ with_row n f rs)) → (q : Row) × In q (s ∷ rs) × ((r ≡ q) ⊎ (r ≡ f q))
    by true rest (inl is) = (s, inl refl, inr is)
    by true rest (inr j) = (r, inr j, inl refl)
    by false rest (inl is) = (s, inl refl, inl is)
    by false rest (inr j) = let w = rest j in (w.0, inr w.1, w.2)

un-some : {A : Type 0} (x y : A) → Some x ≡ Some y → x ≡ y
un-some {A} x y h = ap (λ (o : Option A). elim o [ None ↦ x | Some z ↦ z ]) h

-- ---- both are changes of this volume alone

pub goes_alone : {s : Site} {t : VolumeTable} {x : Name} {r : Row} → IsTable s.count t → IsBeside s t x r (Remove x) → IsAlone t x (Remove x)
goes_alone {s} {t} {x} {r} table h =
    let by_name = changes_by_name s.count t (Remove x) table h.allows in
    record {
      others = λ n other. by_name.others n other;
      own = subst IsNewOrNone (sym by_name.does.2) tt;
      few = fewer_left (λ q. is_image q.name) x t.volumes;
      entries = names_without t.volumes x (no_journal x h.image);
      news = λ q i new. (q, In-without x q t.volumes i, new, refl);
    }

pub grows_alone : {s : Site} {t : VolumeTable} {x : Name} {r : Row} (es : List ℕ) → IsTable s.count t → IsBeside s t x r (Grow x es) → IsAlone t x (Grow x es)
grows_alone {s} {t} {x} {r} es table h =
    let by_name = changes_by_name s.count t (Grow x es) table h.allows in
    let names = names_of-with_row t.volumes x (grown es) (λ q. refl) in
    record {
      others = λ n other. by_name.others n other;
      own = subst IsNewOrNone (sym by_name.does.2) (ap (λ (q : Row). q.fresh) (un-some by_name.does.0 r (sym by_name.does.1 ∙ h.there)) ∙ h.fresh);
      few = omega (arith, counted is_image (with_row x (grown es) t.volumes), counted is_image t.volumes, ap (λ (ns : List Name). length (filter is_image ns)) names);
      entries = ap (filter is_entry) names;
      news = λ q i new. let w = In-with_row x (grown es) t.volumes q i in named q w.0 w.1 w.2 new;
    }
  where
    named : (q p : Row) → In p t.volumes → (q ≡ p) ⊎ (q ≡ grown es p) → q.fresh ≡ true → (v : Row) × In v t.volumes × (v.fresh ≡ true) × (v.name ≡ q.name)
    named q p i (inl is) new = (p, i, ap (λ (z : Row). z.fresh) (sym is) ∙ new, ap (λ (z : Row). z.name) (sym is))
    named q p i (inr is) new = (p, i, ap (λ (z : Row). z.fresh) (sym is) ∙ new, ap (λ (z : Row). z.name) (sym is))

-- the row of a volume that got more extents
pub grown_there : {s : Site} {t : VolumeTable} {x : Name} {r : Row} (es : List ℕ) → IsTable s.count t → IsBeside s t x r (Grow x es) → rows (applied t (Grow x es)) x ≡ Some (grown es r)
grown_there {s} {t} {x} {r} es table h =
    let d = (changes_by_name s.count t (Grow x es) table h.allows).does in
    d.2 ∙ ap (λ q. Some (grown es q)) (un-some d.0 r (sym d.1 ∙ h.there))

-- ---- what a stop leaves of them

module _ (s : Site) (t : VolumeTable) (old : Held) (m : Known) (x : Name) (r : Row) (o : IsOrderly s t m) (ready : IsReady s t old m) where
  pub law_gone : IsBeside s t x r (Remove x) → (new : Held) (before leaves : Leaving) (ok : Type 0) → ((image : ℕ → List ℕ) → IsBefore (area_size s) t old t image → before t image)
      → IsCommit s t (applied t (Remove x)) old new leaves ok
      → HasDone s t (applied t (Remove x)) old new m before leaves ok (disks (content_now s t old))
  law_gone h new before leaves ok might commit = law_beside s t old m x r (Remove x) o ready h (goes_alone o.table h) new before leaves ok might commit

  pub law_grew : (es : List ℕ) → IsBeside s t x r (Grow x es) → (new : Held) (before leaves : Leaving) (ok : Type 0) → ((image : ℕ → List ℕ) → IsBefore (area_size s) t old t image → before t image)
      → IsCommit s t (applied t (Grow x es)) old new leaves ok
      → HasDone s t (applied t (Grow x es)) old new m before leaves ok (disks (content_now s t old))
  law_grew es h new before leaves ok might commit = law_beside s t old m x r (Grow x es) o ready h (grows_alone es o.table h) new before leaves ok might commit
