-- A fill is the write of so many equal bytes.
use Rattle.std.proofs.Common.{◌≡◌, ℕ, zero, suc, ◌+◌, ◌*◌, ◌/◌, ◌%◌, ◌==◌, ◌<◌, nat_lt, ◌||◌, not, Bool, true, false, List, [], ◌∷◌, ◌++◌, length, drop, replicate, None, refl, sym, ap, ap₂, ◌∙◌, subst, arith}
use Rattle.std.specs.Prelude.{Result}
use Rattle.std.proofs.lemmas.Bool.{true≢false}
use Rattle.std.proofs.lemmas.List.{take-replicate}
use Rattle.std.proofs.lemmas.List.{length-replicate, replicate-append-replicate}
use Rattle.std.proofs.Math.Seq.{drop-append_seam}
use Rattle.common_laws.specs.Lists.{first_some, given}
use Rattle.sm_machine.specs.Commits.{commits, own_commits, is_given_up, gives_up}
use Rattle.sm_machine.specs.Disks.{cut_sectors, filled, on_disk}
use Rattle.sm_machine.specs.Refusals.{refusal, is_reserved, is_unknown, is_taken, is_in_use, is_not_attached, is_read_only, is_raw_disk, is_tracked, is_untracked, is_out_of_range, is_outside, is_bad_size, is_shrink, is_deep, is_too_many, is_spent, lacks_space, need, named, new_uuid, forked, images_needed, of_some}
use Rattle.sm_machine.specs.Runs.{is_settling}
use Rattle.sm_machine.specs.Shapes.{Shape, disk_image, free, risen}
use Rattle.sm_base.specs.declared.faults.Failed.{Failed}
use Rattle.sm_base.specs.declared.refusals.Refusal.TheVariants.{UnknownDisk, NotAttached, ReadOnly, OutOfRange, NoSpace}
use Rattle.sm_machine.specs.Steps.{State, Outcome, accepted, disks_next, reply_to, shape_after, shape_next, step, write_shape, written_disk}
use Rattle.sm_machine.proofs.Passed.{passed}
use Rattle.sm_machine.specs.declared.commands.Command.TheVariants.{Fill, Write}
use Rattle.sm_machine.specs.declared.replies.Reply.{Reply}
use Rattle.sm_machine.specs.declared.replies.Reply.TheVariants.{Done}
use Rattle.sm_ready.specs.Refusing.{IsAllowed}
use Rattle.sm_ready.specs.Sessions.{store_state}
use Rattle.sm_ready.specs.Taken.{StoreTakes, StoreTakesTo}
use Rattle.sm_ready.specs.declared.memory.Memory.{Memory}
use Rattle.vg_volumes.specs.declared.stores.Store.{Ghosts}
use Rattle.sm_ready.proofs.TakenLaws.{step_accepted}

drop_all_of : (n byte : ℕ) → drop 512 (replicate (512 + 512 * n) byte) ≡ replicate (512 * n) byte
drop_all_of n byte = ap (drop 512) (sym (replicate-append-replicate 512 (512 * n) byte)) ∙ drop-append 512 (replicate 512 byte) (replicate (512 * n) byte) (length-replicate 512 byte)
  where
    drop-append : (k : ℕ) (xs ys : List ℕ) → length xs ≡ k → drop k (xs ++ ys) ≡ ys
    drop-append k xs ys long = ap (λ j. drop j (xs ++ ys)) (sym long) ∙ drop-append_seam xs ys

pub filled_cut : (n byte : ℕ) → cut_sectors n (replicate (512 * n) byte) ≡ filled n byte
unfolding cut_sectors
filled_cut zero byte = refl
filled_cut (suc n) byte =
    let more : 512 * suc n ≡ 512 + 512 * n = omega arith in
    ap (λ k. cut_sectors (suc n) (replicate k byte)) more ∙ ap₂ (λ x xs. x ∷ xs) (take-replicate 512 (512 + 512 * n) byte (omega arith)) (ap (cut_sectors n) (drop_all_of n byte) ∙ filled_cut n byte)

-- so many sectors of a byte
abbrev pub all_of : ℕ → ℕ → List ℕ
all_of n byte = replicate (512 * n) byte

pub length_all : (n byte : ℕ) → length (all_of n byte) / 512 ≡ n
length_all n byte = let e = length-replicate (512 * n) byte in omega (arith, e)

pub fill_allowed : (s : Shape) (u : List ℕ) (at n byte : ℕ) → refusal s (Fill u at n byte) ≡ None → refusal s (Write u at (all_of n byte)) ≡ None
unfolding refusal is_reserved is_unknown is_taken is_in_use is_not_attached is_read_only is_raw_disk is_tracked is_untracked is_out_of_range is_bad_size is_shrink is_deep is_too_many is_spent lacks_space need named new_uuid forked images_needed
fill_allowed s u at n byte allowed =
    ap (λ b. first_some (given (is_unknown s (Fill u at n byte)) UnknownDisk ∷ None ∷ None ∷ given (is_not_attached s (Fill u at n byte)) NotAttached ∷ given (is_read_only s (Fill u at n byte)) ReadOnly ∷ None ∷ None ∷ None
    ∷ given b OutOfRange ∷ None ∷ None ∷ None ∷ None ∷ None ∷ given (lacks_space s (Fill u at n byte)) (NoSpace 0 (free s)) ∷ [])) range ∙ allowed
  where
    even : length (all_of n byte) % 512 ≡ 0
    even = let e = length-replicate (512 * n) byte in omega (arith, e)

    or_false : (b : Bool) → (b || false) ≡ b
    or_false true = refl
    or_false false = refl

    range : (is_outside s u at (length (all_of n byte) / 512) || not (length (all_of n byte) % 512 == 0)) ≡ is_outside s u at n
    range = ap₂ (λ k m. is_outside s u at k || not (m == 0)) (length_all n byte) even ∙ or_false (is_outside s u at n)

-- it has a sector at least
pub fill_some : (s : Shape) (u : List ℕ) (at n byte : ℕ) → refusal s (Fill u at n byte) ≡ None → 0 < n
unfolding is_out_of_range
fill_some s u at n byte allowed = by n (of_some (λ i. nat_lt i.size (at + n)) (disk_image u s)) (passed s (Fill u at n byte) allowed).out_of_range
  where
    by : (k : ℕ) (past : Bool) → ((k == 0) || past) ≡ false → 0 < k
    by zero past e = absurd (true≢false e)
    by (suc k) past e = omega arith

pub fill_is : (σ : State) (u : List ℕ) (at n byte : ℕ) → refusal σ.shape (Fill u at n byte) ≡ None → step σ (Fill u at n byte) ≡ step σ (Write u at (all_of n byte))
unfolding accepted disks_next shape_next shape_after reply_to commits own_commits is_given_up gives_up
fill_is σ u at n byte allowed =
    step_accepted σ (Fill u at n byte) allowed
    ∙ ap₂ (λ (ss : List (List ℕ)) (k : ℕ). let x : Outcome = record { reply = Done; after = record { disks = on_disk u (written_disk at ss) σ.disks; shape = record (write_shape σ.shape u at k) { sequence = risen σ.shape.sequence 0 } } } in x)
    (sym (filled_cut n byte) ∙ ap (λ k. cut_sectors k (all_of n byte)) (sym (length_all n byte))) (sym (length_all n byte))
    ∙ sym (step_accepted σ (Write u at (all_of n byte)) (fill_allowed σ.shape u at n byte allowed))

-- the shape behind it
pub fill_next : (s : Shape) (u : List ℕ) (at n byte : ℕ) → shape_next s (Write u at (all_of n byte)) ≡ shape_next s (Fill u at n byte)
unfolding shape_next shape_after commits own_commits is_given_up gives_up
fill_next s u at n byte = ap (λ (k : ℕ). let x : Shape = record (write_shape s u at k) { sequence = risen s.sequence 0 } in x) (length_all n byte)

-- a store that took the write took the fill
pub fill_taken : {S : Type 0} (g : Ghosts S) (a b : S) (m k : Memory) (u : List ℕ) (at n byte : ℕ) (result : Result Reply Failed) → IsAllowed g (Fill u at n byte) a m
    → StoreTakes g (Write u at (all_of n byte)) a m b k result → StoreTakes g (Fill u at n byte) a m b k result
unfolding is_settling
fill_taken g a b m k u at n byte result allowed taken =
    subst (λ (o : Outcome). StoreTakesTo o g (Fill u at n byte) a m b k result) (sym (fill_is (store_state g a m) u at n byte allowed))
    (record { reply = taken.reply; ready = taken.ready; settled = taken.settled; crash = taken.crash; logged = taken.logged })
