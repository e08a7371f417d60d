-- Logs of no use go, one after the other.
use Rattle.std.proofs.Common.{◌≡◌, ℕ, ◌<◌, false, List, [], ◌∷◌, ◌++◌, length, Option, Some, None, refl, sym, ap, subst, ◌∙◌, arith}
use Rattle.sm_base.specs.declared.names.Name.{Name}
use Rattle.sm_disk.proofs.HeldLaws.{Keeps-none}
use Rattle.std.specs.List.{find}
use Rattle.std.proofs.lemmas.List.{append-nil, append_assoc}
use Rattle.vg_meta.specs.Changes.{applied}
use Rattle.vg_meta.specs.Roomy.{RoomyRow, RoomyTable, table_alone}
use Rattle.vg_meta.specs.Tables.{IsTable, VolumeTable}
use Rattle.vg_meta.specs.declared.changes.Change.{Change}
use Rattle.vg_meta.specs.declared.changes.Change.TheVariants.{Remove}
use Rattle.vg_meta.proofs.ChangeLaws.{IsTable-applied}
use Rattle.vg_volumes.specs.Sites.{Fits}
use Rattle.vg_volumes.specs.Stored.{IsChoiceOf, stored}
use Rattle.vg_volumes.specs.declared.stores.Store.{Ghosts}
use Rattle.sm_standing.specs.Opened.{applied_all}
use Rattle.sm_standing.specs.Dropped.{drop_changes, first_useless, is_useless}
use Rattle.sm_checks.proofs.CheckLaws.{held_first, held_name}
use Rattle.sm_log_rows.proofs.DroppedLaws.{drop_first, drop_none, dropped_shorter, may_drop, removed_short}
use Rattle.sm_ready.proofs.ChainLaws.{tab}
use Rattle.sm_ready.proofs.RunLaws.{applied_append}
use Rattle.sm_ready.specs.Runs.{AllMay}
use Rattle.sm_recover.specs.Steps.{IsPartOf, MakesAll, MakesPart}
use Rattle.sm_recover.proofs.StepLaws.{front_part, left_before, part_none, then_part}

-- some went: these commits were made, and those that are left are those of the table as it is
pub record HasDropped {S : Type 0} (g : Ghosts S) (old new : S) : Type 0 where
  pub made : List Change
  pub split : drop_changes (tab g old) ≡ made ++ drop_changes (tab g new)
  pub part : MakesPart g made old new
  pub all : MakesAll g made old new
  pub may : AllMay (g.site new).count (tab g new) (drop_changes (tab g new))

module _ {S : Type 0} {g : Ghosts S} where
  -- none yet
  pub none_dropped : {a : S} → (g.told → (t : VolumeTable) (image : ℕ → List ℕ) → g.leaves a t image → IsChoiceOf (stored g a) t image) → g.failed a ≡ false
      → AllMay (g.site a).count (tab g a) (drop_changes (tab g a)) → HasDropped g a a
  none_dropped {a} stop usable may = record {
    made = [];
    split = refl;
    part = record {
      site = refl;
      counts = omega arith;
      beside = λ told. Keeps-none _;
      keeps = λ told. Keeps-none _;
      part = part_none (tab g a) [];
      left = λ told t image leaves. left_before (stored g a) (IsPartOf (tab g a) []) t image (part_none (tab g a) []) (stop told t image leaves);
    };
    all = record { usable = usable; table = refl; room = λ had. had; settled = λ told was. was };
    may = may;
  }

  pub then_all : {a b d : S} (xs ys : List Change) → MakesAll g xs a b → MakesAll g ys b d → MakesAll g (xs ++ ys) a d
  then_all {a} {b} {d} xs ys first second = record {
    usable = second.usable;
    table = second.table ∙ ap (λ (t : VolumeTable). applied_all t ys) first.table ∙ sym (applied_append (tab g a) xs ys);
    room = λ had. second.room (first.room had);
    settled = λ told was. second.settled told (first.settled told was);
  }

  -- the first of them may go
  pub next_may : {a b : S} (n : Name) → HasDropped g a b → IsTable (g.site b).count (tab g b) → first_useless (tab g b) ≡ Some n → AllMay (g.site b).count (tab g b) (Remove n ∷ [])
  next_may {a} {b} n h table first =
      let may = subst (AllMay (g.site b).count (tab g b)) (drop_first (g.site b).count (tab g b) n table first) h.may in
      (may.0, may.1, tt)

  -- and then it went
  pub next_dropped : {a b d : S} (n : Name) → HasDropped g a b → IsTable (g.site b).count (tab g b) → first_useless (tab g b) ≡ Some n
      → MakesPart g (Remove n ∷ []) b d → MakesAll g (Remove n ∷ []) b d → HasDropped g a d
  next_dropped {a} {b} {d} n h table first part all =
      let next = drop_first (g.site b).count (tab g b) n table first in
      let one : List Change = Remove n ∷ [] in
      record {
        made = h.made ++ one;
        split = h.split ∙ ap (λ cs. h.made ++ cs) (next ∙ ap (λ (t : VolumeTable). Remove n ∷ drop_changes t) (sym all.table)) ∙ sym (append_assoc h.made one (drop_changes (tab g d)));
        part = then_part h.made one h.part h.all part;
        all = then_all h.made one h.all all;
        may = subst (λ (t : VolumeTable). AllMay (g.site d).count t (drop_changes t)) (sym all.table)
            (subst (λ s. AllMay s.count (applied (tab g b) (Remove n)) (drop_changes (applied (tab g b) (Remove n)))) (sym part.site)
            (subst (AllMay (g.site b).count (tab g b)) next h.may).2);
      }

  -- where a commit failed
  pub part_failed : {a b d : S} (n : Name) → HasDropped g a b → IsTable (g.site b).count (tab g b) → first_useless (tab g b) ≡ Some n
      → MakesPart g (Remove n ∷ []) b d → MakesPart g (drop_changes (tab g a)) a d
  part_failed {a} {b} {d} n h table first part =
      let next = drop_first (g.site b).count (tab g b) n table first in
      subst (λ cs. MakesPart g cs a d) (sym (h.split ∙ ap (λ cs. h.made ++ cs) next))
      (then_part h.made (Remove n ∷ drop_changes (applied (tab g b) (Remove n))) h.part h.all (front_part (Remove n ∷ []) (drop_changes (applied (tab g b) (Remove n))) part))

  -- none is left: these were all
  pub made_all : {a b : S} (h : HasDropped g a b) → first_useless (tab g b) ≡ None → drop_changes (tab g a) ≡ h.made
  made_all {a} {b} h none = h.split ∙ ap (λ cs. h.made ++ cs) (drop_none (tab g b) none) ∙ append-nil h.made

  pub part_all_made : {a b : S} → HasDropped g a b → first_useless (tab g b) ≡ None → MakesPart g (drop_changes (tab g a)) a b
  part_all_made {a} {b} h none = subst (λ cs. MakesPart g cs a b) (sym (made_all h none)) h.part

  pub all_all_made : {a b : S} → HasDropped g a b → first_useless (tab g b) ≡ None → MakesAll g (drop_changes (tab g a)) a b
  all_all_made {a} {b} h none = subst (λ cs. MakesAll g cs a b) (sym (made_all h none)) h.all

-- the first of them in memory
pub useless_at : (k : RoomyTable) {hs : List RoomyRow} {o : Option RoomyRow} {answer : Option Name} → hs ≡ k.rows → o ≡ find (λ h. is_useless (table_alone k) h.row) hs → answer ≡ held_name o
    → answer ≡ first_useless (table_alone k)
useless_at k held found said =
    said ∙ ap held_name (found ∙ ap (find (λ (h : RoomyRow). is_useless (table_alone k) h.row)) held) ∙ sym (held_first (is_useless (table_alone k)) k.rows)

-- the table is shorter
pub next_shorter : (t u : VolumeTable) (n : Name) → first_useless t ≡ Some n → u ≡ applied t (Remove n) → length u.volumes < length t.volumes
next_shorter t u n first is = omega (arith, ap (λ (x : VolumeTable). length x.volumes) is, dropped_shorter t n first)

-- ---- each may go where the first may

may_from : (count : ℕ) (cs : List Change) (t : VolumeTable) → IsTable count t → drop_changes t ≡ cs → ((n : Name) → first_useless t ≡ Some n → Fits count t (Remove n)) → AllMay count t cs
may_from count [] t table is fits = tt
may_from count (c ∷ cs) t table is fits = by (first_useless t) refl (λ u next rest later. may_from count cs u next rest later)
  where
    head_same : (x y : Change) (xs ys : List Change) → x ∷ xs ≡ y ∷ ys → x ≡ y
    head_same x y xs ys e = cc

    tail_same : (x y : Change) (xs ys : List Change) → x ∷ xs ≡ y ∷ ys → xs ≡ ys
    tail_same x y xs ys e = cc

    on : (n : Name) → first_useless t ≡ Some n → c ≡ Remove n → drop_changes (applied t (Remove n)) ≡ cs
        → ((u : VolumeTable) → IsTable count u → drop_changes u ≡ cs → ((m : Name) → first_useless u ≡ Some m → Fits count u (Remove m)) → AllMay count u cs) → AllMay count t (c ∷ cs)
    on n first same rest further =
        let permits = may_drop count t n table first in
        let less = fits n first in
        subst (λ x. AllMay count t (x ∷ cs)) (sym same)
        (permits, less, further (applied t (Remove n)) (IsTable-applied count t (Remove n) table permits) rest (λ m later. omega (arith, removed_short (applied t (Remove n)) m, less)))

    by : (o : Option Name) → first_useless t ≡ o → ((u : VolumeTable) → IsTable count u → drop_changes u ≡ cs → ((m : Name) → first_useless u ≡ Some m → Fits count u (Remove m)) → AllMay count u cs)
        → AllMay count t (c ∷ cs)
    by None none further = absurd (let e = sym is ∙ drop_none t none in cc)
    by (Some n) first further =
        let both : c ∷ cs ≡ Remove n ∷ drop_changes (applied t (Remove n)) = sym is ∙ drop_first count t n table first in
        on n first (head_same c (Remove n) cs _ both) (sym (tail_same c (Remove n) cs _ both)) further

pub may_all : (count : ℕ) (t : VolumeTable) → IsTable count t → ((n : Name) → first_useless t ≡ Some n → Fits count t (Remove n)) → AllMay count t (drop_changes t)
may_all count t table fits = may_from count (drop_changes t) t table refl fits
