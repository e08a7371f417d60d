-- A command behind the folding that it gave up: what it does from there the machine has of it from before.
use Rattle.std.proofs.Common.{◌≡◌, ℕ, ◌+◌, ◌≤◌, suc, Bool, true, false, cond, List, [], ◌∷◌, Option, Some, None, refl, sym, ap, ap₂, ◌∙◌, subst, subst₂, arith}
use Rattle.std.proofs.lemmas.Bool.{true≢false}
use Rattle.sm_base.specs.declared.names.Name.{Name}
use Rattle.sm_base.specs.declared.names.Name.TheVariants.{Leaf}
use Rattle.sm_base.specs.declared.operations.Mode.TheVariants.{Ro, Rw}
use Rattle.sm_machine.specs.Operations.{Op}
use Rattle.sm_machine.specs.Operations as op
use Rattle.sm_disk.specs.Held.{IsSettled}
use Rattle.sm_log.specs.Logs.{Log}
use Rattle.vg_meta.specs.Changes.{applied}
use Rattle.vg_meta.specs.Tables.{VolumeTable}
use Rattle.vg_meta.specs.declared.changes.Change.TheVariants.{Remove}
use Rattle.vg_volumes.specs.Sites.{Site}
use Rattle.vg_volumes.specs.Stored.{Commits, IsChoiceOf, stored}
use Rattle.vg_volumes.specs.declared.stores.Store.{Ghosts}
use Rattle.sm_machine.specs.Commits.{commits, folds, gives_up, is_given_up, one_if, own_commits}
use Rattle.sm_machine.specs.Disks.{Disk}
use Rattle.sm_machine.specs.Refusals.{forked, is_bad_size, is_deep, is_in_use, is_not_attached, is_out_of_range, is_raw_disk, is_tracked, is_untracked, log_need, is_read_only, is_shrink, is_spent, is_taken, is_too_many, is_unknown, lacks_space, named, need, new_uuid, refusal, rounded}
use Rattle.sm_machine.specs.Shapes.{Shape, free, image_uuid, risen}
use Rattle.sm_machine.specs.Steps.{disks_next, given_up, shape_after, shape_next}
use Rattle.sm_machine.specs.declared.commands.Command.{Command}
use Rattle.sm_machine.specs.declared.commands.Command.TheVariants.{Attach, Changed, Clone, Create, Delete, Detach, Fill, Flush, Gc, Label, List as Listing, Read, Resize, Snapshot, Stat, Track, Write}
use Rattle.sm_record.specs.declared.records.Record.{Record}
use Rattle.sm_refs.specs.Attached.{Attached}
use Rattle.vhd_chain.specs.Trees.{Tree}
use Rattle.sm_standing.specs.Standing.{disks}
use Rattle.sm_ready.specs.Does.{IsKeptUp, StoreDoes, store_shape}
use Rattle.sm_ready.specs.Done.{HasDone}
use Rattle.sm_ready.specs.Framing.{IsBetweenSteps, StepsOn}
use Rattle.sm_ready.specs.Known.{Known, entry_of, known, shape_in}
use Rattle.sm_ready.specs.Orderly.{IsOrderly}
use Rattle.sm_ready.specs.Ready.{IsReady}
use Rattle.sm_ready.specs.Refusing.{IsAllowed}
use Rattle.sm_ready.specs.Sessions.{IsOrderlyStore, IsReadyStore}
use Rattle.sm_ready.specs.Stores.{StoreLeaves, content_now, store_content}
use Rattle.sm_ready.specs.declared.memory.Memory.{Memory}
use Rattle.sm_ready.proofs.ChainLaws.{might_show, only_crash, still_before, tab}
use Rattle.sm_ready.proofs.CleanLaws.{risen_twice}
use Rattle.sm_ready.proofs.TakenLaws.{is_told}
use Rattle.sm_ready.proofs.ThenLaws.{then_done}
use Rattle.gc_abandon.specs.Abandoning.{abandoned, abandoned_where, idle, is_fork, is_own, unfolded}
use Rattle.gc_abandon.proofs.EndingLaws.{ends, folding_of, leaf_folded, orderly_before}

-- ---- in the machine

-- what it is refused for
pub refusal_abandoned : (s : Shape) (c : Command) → is_own c ≡ true → refusal (abandoned s) c ≡ refusal s c
unfolding refusal is_unknown is_taken is_in_use is_not_attached is_read_only is_raw_disk is_tracked is_untracked is_out_of_range is_bad_size is_shrink is_deep is_too_many is_spent lacks_space log_need need named new_uuid forked rounded free
refusal_abandoned s (Delete u) own = refl
refusal_abandoned s (Attach u Rw) own = refl
refusal_abandoned s (Attach u Ro) own = refl
refusal_abandoned s (Detach u) own = refl
refusal_abandoned s (Resize u size) own = refl
refusal_abandoned s _ own = absurd (true≢false (sym own))

-- the extents that it takes
pub need_abandoned : (s : Shape) (c : Command) → is_own c ≡ true → need (abandoned s) c ≡ need s c
unfolding need rounded
need_abandoned s (Delete u) own = refl
need_abandoned s (Attach u Rw) own = refl
need_abandoned s (Attach u Ro) own = refl
need_abandoned s (Detach u) own = refl
need_abandoned s (Resize u size) own = refl
need_abandoned s _ own = absurd (true≢false (sym own))

-- its own commits
own_abandoned : (s : Shape) (c : Command) → is_own c ≡ true → own_commits (abandoned s) c ≡ own_commits s c
unfolding own_commits need rounded
own_abandoned s (Delete u) own = refl
own_abandoned s (Attach u Rw) own = refl
own_abandoned s (Attach u Ro) own = refl
own_abandoned s (Detach u) own = refl
own_abandoned s (Resize u size) own = refl
own_abandoned s _ own = absurd (true≢false (sym own))

-- the shape behind it
after_abandoned : (s : Shape) (c : Command) (k : ℕ) → is_own c ≡ true
    → record (given_up true (shape_after s c)) { sequence = k } ≡ record (given_up false (shape_after (abandoned s) c)) { sequence = k }
unfolding shape_after rounded
after_abandoned s (Delete u) k own = refl
after_abandoned s (Attach u Rw) k own = refl
after_abandoned s (Attach u Ro) k own = refl
after_abandoned s (Detach u) k own = refl
after_abandoned s (Resize u size) k own = refl
after_abandoned s _ k own = absurd (true≢false (sym own))

-- no operation is left to give up
none_left : (s : Shape) (c : Command) → is_given_up (abandoned s) c ≡ false
unfolding is_given_up folds
none_left s c = by (gives_up c)
  where
    by : (o : Option (List ℕ)) → elim o as (λ _. Bool) [ None ↦ false | Some u ↦ false ] ≡ false
    by None = refl
    by (Some u) = refl

-- one commit and then so many
one_first : (q n : ℕ) → risen (risen q 1) (0 + n) ≡ risen q (1 + n)
one_first q n =
    let none : 0 + n ≡ n = omega arith in
    let more : suc n ≡ 1 + n = omega arith in
    ap (risen (risen q 1)) none ∙ risen_twice q n ∙ ap (risen q) more

pub next_abandoned : (s : Shape) (c : Command) → is_own c ≡ true → is_given_up s c ≡ true → shape_next (abandoned s) c ≡ shape_next s c
unfolding shape_next commits
next_abandoned s c own is =
    ap (λ b. let x : Shape = record (given_up b (shape_after (abandoned s) c)) { sequence = risen (risen s.sequence 1) (one_if b + own_commits (abandoned s) c) } in x) (none_left s c)
    ∙ sym (after_abandoned s c (risen (risen s.sequence 1) (0 + own_commits (abandoned s) c)) own)
    ∙ ap (λ k. let x : Shape = record (given_up true (shape_after s c)) { sequence = risen (risen s.sequence 1) (0 + k) } in x) (own_abandoned s c own)
    ∙ ap (λ k. let x : Shape = record (given_up true (shape_after s c)) { sequence = k } in x) (one_first s.sequence (own_commits s c))
    ∙ sym (ap (λ b. let x : Shape = record (given_up b (shape_after s c)) { sequence = risen s.sequence (one_if b + own_commits s c) } in x) is)

-- what a fork is refused for
pub refusal_forked : (s : Shape) (c : Command) → is_fork c ≡ true → refusal (idle s) c ≡ refusal s c
unfolding refusal is_unknown is_taken is_in_use is_not_attached is_read_only is_raw_disk is_tracked is_untracked is_out_of_range is_bad_size is_shrink is_deep is_too_many is_spent lacks_space log_need need named new_uuid forked free
refusal_forked s (Snapshot u twin) fork = refl
refusal_forked s (Clone u twin) fork = refl
refusal_forked s _ fork = absurd (true≢false (sym fork))

-- the shape behind a fork: its base has the number from before, and there is one commit more
forked_after : (s : Shape) (c : Command) (k : ℕ) → is_fork c ≡ true
    → record (given_up true (shape_after s c)) { sequence = risen s.sequence (1 + k) } ≡ record (shape_after (idle s) c) { sequence = risen s.sequence (1 + k) }
unfolding shape_after
forked_after s (Snapshot u twin) k fork = refl
forked_after s (Clone u twin) k fork = refl
forked_after s _ k fork = absurd (true≢false (sym fork))

pub next_forked : (s : Shape) (c : Command) → is_fork c ≡ true → is_given_up s c ≡ true → shape_next s c ≡ record (shape_after (idle s) c) { sequence = risen s.sequence (1 + own_commits s c) }
unfolding shape_next commits
next_forked s c fork is =
    ap (λ b. let x : Shape = record (given_up b (shape_after s c)) { sequence = risen s.sequence (one_if b + own_commits s c) } in x) is ∙ forked_after s c (own_commits s c) fork

-- where nothing is given up
next_kept : (s : Shape) (c : Command) → is_given_up s c ≡ false → shape_next s c ≡ record (shape_after s c) { sequence = risen s.sequence (own_commits s c) }
unfolding shape_next commits
next_kept s c is =
    ap (λ b. let x : Shape = record (given_up b (shape_after s c)) { sequence = risen s.sequence (one_if b + own_commits s c) } in x) is
    ∙ ap (λ k. let x : Shape = record (shape_after s c) { sequence = risen s.sequence k } in x) (omega arith)

-- the disks behind it
disks_abandoned : (ds : List Disk) (s : Shape) (c : Command) → disks_next ds (abandoned s) c ≡ disks_next ds s c
unfolding disks_next rounded
disks_abandoned ds s (Create u size raw label) = by raw
  where
    by : (b : Bool) → disks_next ds (abandoned s) (Create u size b label) ≡ disks_next ds s (Create u size b label)
    by true = refl
    by false = refl
disks_abandoned ds s (Delete u) = refl
disks_abandoned ds s (Attach u mode) = refl
disks_abandoned ds s (Detach u) = refl
disks_abandoned ds s (Snapshot u twin) = refl
disks_abandoned ds s (Clone u twin) = refl
disks_abandoned ds s (Resize u size) = refl
disks_abandoned ds s (Label u text) = refl
disks_abandoned ds s (Write u sector bytes) = refl
disks_abandoned ds s (Fill u sector count byte) = refl
disks_abandoned ds s (Read u sector count) = refl
disks_abandoned ds s (Flush u) = refl
disks_abandoned ds s Gc = refl
disks_abandoned ds s Listing = refl
disks_abandoned ds s Stat = refl
disks_abandoned ds s (Track u on) = refl
disks_abandoned ds s (Changed u n) = refl

-- ---- in a store

-- what `give_up` says where it succeeded
pub record GaveUp {S : Type 0} (g : Ghosts S) (u : List ℕ) (a : S) (m : Memory) (b : S) (k : Memory) : Type 0 where
  pub site : g.site b ≡ g.site a
  pub session : IsBetweenSteps g b k
  pub shape : store_shape g b k ≡ abandoned_where (folds m.operation u) (store_shape g a m)
  pub none : folds m.operation u ≡ false → (b ≡ a) × (k ≡ m)
  pub done : folds m.operation u ≡ true → g.told → IsReadyStore g a m
      → IsReady (g.site a) (tab g b) (g.area b) (known k) × IsSettled (g.area b) × (disks (content_now (g.site a) (tab g b) (g.area b)) ≡ disks (store_content g a))

-- it is so by the clauses of a call that succeeded
pub gave_up : {S : Type 0} {g : Ghosts S} {u : List ℕ} {a b : S} {m k : Memory} {fine : Type 0} → StepsOn g 1 a b → IsBetweenSteps g b k
    → store_shape g b k ≡ abandoned_where (folds m.operation u) (store_shape g a m) → (folds m.operation u ≡ false → fine × (b ≡ a) × (k ≡ m))
    → (folds m.operation u ≡ true → g.told → IsReadyStore g a m
    → HasDone (g.site a) (tab g a) (tab g b) (g.area a) (g.area b) (known k) (StoreLeaves g a) (StoreLeaves g b) fine (disks (store_content g a))) → fine → GaveUp g u a m b k
gave_up step session shape none done is = record {
  site = step.site;
  session = session;
  shape = shape;
  none = λ no. let same = none no in (same.1, same.2);
  done = λ folded told ready. let d = done folded told ready in (d.ready is, d.settled is, d.shown is);
}

module _ {S : Type 0} {g : Ghosts S} {u : List ℕ} {a b : S} {m k : Memory} (w : GaveUp g u a m b k) where
  -- the shape where the operation was given up
  shape_where : (f : Bool) → folds m.operation u ≡ f → store_shape g b k ≡ abandoned_where f (store_shape g a m)
  shape_where f is = w.shape ∙ ap (λ x. abandoned_where x (store_shape g a m)) is

  module _ (c : Command) (disk : gives_up c ≡ Some u) where
    given : is_given_up (store_shape g a m) c ≡ folds m.operation u
    unfolding is_given_up shape_in
    given = ap (λ o. elim o as (λ _. Bool) [ None ↦ false | Some v ↦ folds m.operation v ]) disk

    -- no cause refuses it, and no operation is left for it to give up
    pub then_allowed : is_own c ≡ true → IsAllowed g c a m → IsAllowed g c b k
    then_allowed own passes = by (folds m.operation u) refl
      where
        by : (f : Bool) → folds m.operation u ≡ f → IsAllowed g c b k
        by true is = ap (λ σ. refusal σ c) (shape_where true is) ∙ refusal_abandoned (store_shape g a m) c own ∙ passes
        by false is = ap (λ σ. refusal σ c) (shape_where false is) ∙ passes

    pub then_kept : IsKeptUp g c b k
    then_kept = by (folds m.operation u) refl
      where
        by : (f : Bool) → folds m.operation u ≡ f → IsKeptUp g c b k
        by true is = ap (λ σ. is_given_up σ c) (shape_where true is) ∙ none_left (store_shape g a m) c
        by false is = ap (λ σ. is_given_up σ c) (shape_where false is) ∙ given ∙ is

    -- the machine's shape behind it
    pub then_next : is_own c ≡ true → shape_next (store_shape g b k) c ≡ shape_next (store_shape g a m) c
    then_next own = by (folds m.operation u) refl
      where
        by : (f : Bool) → folds m.operation u ≡ f → shape_next (store_shape g b k) c ≡ shape_next (store_shape g a m) c
        by true is = ap (λ σ. shape_next σ c) (shape_where true is) ∙ next_abandoned (store_shape g a m) c own (given ∙ is)
        by false is = ap (λ σ. shape_next σ c) (shape_where false is)

  -- what it does
  pub then_does : {e : S} (n : Memory) (ok : Type 0) (c : Command) → IsBetweenSteps g a m → g.told → IsReadyStore g a m
      → ((v : VolumeTable) (image : ℕ → List ℕ) → g.leaves a v image → IsChoiceOf (stored g a) v image)
      → ((v : VolumeTable) (image : ℕ → List ℕ) → g.leaves b v image → IsChoiceOf (stored g b) v image)
      → (IsReadyStore g b k → StoreDoes g c b k e n ok) → StoreDoes g c a m e n ok
  then_does {e} n ok c session told ready now mid_now does = by (folds m.operation u) refl
    where
      by : (f : Bool) → folds m.operation u ≡ f → StoreDoes g c a m e n ok
      by false is =
          let same = w.none is in
          subst₂ (λ (x : S) (y : Memory). IsReadyStore g x y → StoreDoes g c x y e n ok) same.0 same.1 does ready
      by true is =
          let d = w.done is told ready in
          let made = subst (λ s. IsReady s (tab g b) (g.area b) (known k)) (sym w.site) d.0 in
          let same = ap (λ s. disks (content_now s (tab g b) (g.area b))) w.site ∙ d.2 in
          then_done (is_told g a m session.orderly session.usable told ready now) (is_told g b k w.session.orderly w.session.usable told made mid_now) w.site d.1 same (known n) ok (disks_next (disks (store_content g a)) (store_shape g a m) c)
          (subst (λ ds. HasDone (g.site b) (tab g b) (tab g e) (g.area b) (g.area e) (known n) (StoreLeaves g b) (StoreLeaves g e) ok ds)
          (ap₂ (λ ds σ. disks_next ds σ c) same (shape_where true is) ∙ disks_abandoned (disks (store_content g a)) (store_shape g a m) c) (does made))

-- giving it up failed
pub give_up_failed : {S : Type 0} (g : Ghosts S) (a b : S) (m n : Memory) (u : List ℕ) (c : Command) (fine ok : Type 0) → g.failed a ≡ false → g.told → (folds m.operation u ≡ false → ⊥) → (ok → ⊥)
    → (folds m.operation u ≡ true → HasDone (g.site a) (tab g a) (tab g b) (g.area a) (g.area b) (known n) (StoreLeaves g a) (StoreLeaves g b) fine (disks (store_content g a)))
    → StoreDoes g c a m b n ok
give_up_failed g a b m n u c fine ok usable told some never done = by (folds m.operation u) refl
  where
    by : (f : Bool) → folds m.operation u ≡ f → StoreDoes g c a m b n ok
    by false is = absurd (some is)
    by true is = only_crash never (λ v image l. let w = (done is).crash v image l in (w.0, still_before (disks_next (disks (store_content g a)) (store_shape g a m) c) _ (might_show g usable told) w.1)) (done is).logged

-- ---- a fork, whose base has the number from before

module _ {S : Type 0} {g : Ghosts S} {u : List ℕ} {a b : S} {m k : Memory} (w : GaveUp g u a m b k) where
  abbrev number : ℕ
  number = (tab g a).sequence

  -- the table has it, or the next
  pub then_number : IsOrderlyStore g a m → (folds m.operation u ≡ true → (e : Name) → entry_of m.operation ≡ e ∷ [] → Commits g (Remove e) a b)
      → (number ≤ (tab g b).sequence) × ((tab g b).sequence ≤ number + 1)
  then_number o gone = by (folds m.operation u) refl
    where
      by : (f : Bool) → folds m.operation u ≡ f → (number ≤ (tab g b).sequence) × ((tab g b).sequence ≤ number + 1)
      by false is = subst (λ (x : S). (number ≤ (tab g x).sequence) × ((tab g x).sequence ≤ number + 1)) (sym (w.none is).0) (omega arith, omega arith)
      by true is =
          let l = leaf_folded m.operation (folding_of m.operation u is) in
          let raised = ap (λ (t : VolumeTable). t.sequence) (gone is (Leaf (image_uuid l.0) (image_uuid l.1)) l.2).table in
          let small = o.table.sequence in
          (omega (arith, raised, small), omega (arith, raised))

  -- by this number table and memory are orderly
  pub then_orderly : IsOrderlyStore g a m → k.operation ≡ unfolded m.operation u → (k.tree ≡ m.tree) × (k.records ≡ m.records) × (k.attached ≡ m.attached)
      → k.logs ≡ m.logs → (folds m.operation u ≡ true → (e : Name) → entry_of m.operation ≡ e ∷ [] → Commits g (Remove e) a b) → IsOrderly (g.site b) (record (tab g b) { sequence = number }) (known k)
  then_orderly o operation others logs gone = by (folds m.operation u) refl
    where
      known_is : known k ≡ record (known m) { op = k.operation }
      known_is =
          ap₂ (λ (t : Tree) (ps : List (Option Record)). let x : Known = record { rows = t.rows; places = ps; logs = k.logs; attached = k.attached; op = k.operation } in x) others.0 others.1
          ∙ ap₂ (λ (ls : List Log) (y : Attached). let x : Known = record { rows = m.tree.rows; places = m.records; logs = ls; attached = y; op = k.operation } in x) logs others.2

      by : (f : Bool) → folds m.operation u ≡ f → IsOrderly (g.site b) (record (tab g b) { sequence = number }) (known k)
      by false is =
          let same = w.none is in
          subst₂ (λ (x : S) (y : Memory). IsOrderly (g.site x) (record (tab g x) { sequence = number }) (known y)) (sym same.0) (sym same.1) o
      by true is =
          let l = leaf_folded m.operation (folding_of m.operation u is) in
          let c = gone is (Leaf (image_uuid l.0) (image_uuid l.1)) l.2 in
          let over : k.operation ≡ op.Idle = operation ∙ ap (λ (f : Bool). cond f op.Idle m.operation) is in
          subst₂ (λ (s : Site) (t : VolumeTable). IsOrderly s (record t { sequence = number }) (known k)) (sym w.site) (sym c.table)
          (subst (λ (x : Known). IsOrderly (g.site a) (record (applied (tab g a) (Remove (Leaf (image_uuid l.0) (image_uuid l.1)))) { sequence = number }) x)
          (sym (known_is ∙ ap (λ (x : Op). let y : Known = record (known m) { op = x } in y) over))
          (orderly_before (ends g a m o refl l.2 refl)))

  module _ (c : Command) (fork : is_fork c ≡ true) where
    -- no cause refuses it
    pub then_unrefused : IsAllowed g c a m → refusal (shape_in (g.site b) (record (tab g b) { sequence = number }) (known k)) c ≡ None
    unfolding shape_in
    then_unrefused passes = ap (λ (σ : Shape). refusal (record σ { sequence = number }) c) w.shape ∙ by (folds m.operation u)
      where
        by : (f : Bool) → refusal (record (abandoned_where f (store_shape g a m)) { sequence = number }) c ≡ None
        by true = refusal_forked (store_shape g a m) c fork ∙ passes
        by false = passes

    -- the machine's shape behind it
    pub then_forked : gives_up c ≡ Some u
        → record (shape_after (record (store_shape g b k) { sequence = number }) c) { sequence = risen (store_shape g b k).sequence (own_commits (store_shape g a m) c) }
        ≡ shape_next (store_shape g a m) c
    unfolding shape_in
    then_forked disk = ap forked w.shape ∙ by (folds m.operation u) refl
      where
        forked : Shape → Shape
        forked σ = record (shape_after (record σ { sequence = number }) c) { sequence = risen σ.sequence (own_commits (store_shape g a m) c) }

        by : (f : Bool) → folds m.operation u ≡ f → forked (abandoned_where f (store_shape g a m)) ≡ shape_next (store_shape g a m) c
        by true is =
            ap (λ (n : ℕ). let x : Shape = record (shape_after (idle (store_shape g a m)) c) { sequence = n } in x)
            (ap (λ n. risen (risen number 1) n) (omega arith) ∙ one_first number (own_commits (store_shape g a m) c))
            ∙ sym (next_forked (store_shape g a m) c fork (given w c disk ∙ is))
        by false is = sym (next_kept (store_shape g a m) c (given w c disk ∙ is))
