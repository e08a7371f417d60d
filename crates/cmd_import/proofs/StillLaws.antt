-- An import that ends without a disk: a stop leaves the disks from before.
use Rattle.std.proofs.Common.{◌≡◌, ◌≤◌, ⊎_elim, inl, inr, List, ℕ, Option, Result, Ok, Err, Bool, true, false, refl, sym, ap, ◌∙◌, subst, subst₂, arith}
use Rattle.std.specs.Prelude.{IfErr, OnOk}
use Rattle.std.proofs.lemmas.Bool.{true≢false}
use Rattle.sm_disk.specs.Held.{Keeps, Rose}
use Rattle.sm_disk.proofs.HeldLaws.{Keeps-none}
use Rattle.sm_machine.specs.Disks.{Disk}
use Rattle.sm_standing.specs.Logs.{IsLogged}
use Rattle.sm_standing.specs.Standing.{disks}
use Rattle.sm_ready.specs.Done.{HasDone}
use Rattle.sm_ready.specs.Known.{known}
use Rattle.sm_ready.specs.Framing.{IsBetweenSteps}
use Rattle.sm_ready.specs.Sessions.{IsReadyStore}
use Rattle.sm_ready.specs.Stores.{StoreLeaves, content_in, store_content}
use Rattle.sm_ready.specs.declared.memory.Memory.{Memory}
use Rattle.sm_ready.proofs.ChainLaws.{tab}
use Rattle.vg_volumes.specs.declared.stores.Store.{Ghosts}
use Rattle.vhd_import.specs.Room.{Target}
use Rattle.vhd_import.specs.declared.faults.ImportFault.{ImportFault}
use Rattle.vhd_import.specs.declared.faults.ImportFault.TheVariants as fault
use Rattle.sm_importing.specs.Disks.{Begin, IsSince}
use Rattle.sm_importing.specs.Imports.{ImportsSince, LeavesStill}
use Rattle.sm_importing.proofs.ImportLaws.{LeavesNow, so_far_first}
use Rattle.sm_importing.proofs.LowerLaws.{lower_same}
use Rattle.vhd_import.specs.Progress.{FaultCounts}
use Rattle.cmd_import.specs.Importing.{EndCounts, EndFaultCounts, EndsWith, HasImported}
use Rattle.cmd_import.specs.Ends.{UndoCounts, target_from}

-- whatever the fault, the disks may be those from before
pub same_ends : (t : Target) (u : List ℕ) (bytes : Option (List ℕ)) (was : List Disk) (f : ImportFault) → EndsWith t u bytes was was (Err f)
same_ends t u bytes was (fault.Refused r) = refl
same_ends t u bytes was fault.Long = refl
same_ends t u bytes was fault.Device = inl refl
same_ends t u bytes was fault.Source = refl
same_ends t u bytes was fault.NoMemory = refl

module _ {S : Type 0} (g : Ghosts S) (u : List ℕ) (bytes : Option (List ℕ)) (m n : Memory) (a new : S) (f : ImportFault) where
  pub ends_still : n.logs ≡ m.logs → g.told → LeavesStill g m a new → HasImported g u bytes m n a new (Err f)
  ends_still same_logs told left = record {
    ends = disks (store_content g a);
    ends_with = same_ends (target_from g a m) u bytes (disks (store_content g a)) f;
    still = λ d i. i;
    others = λ d i. inr i;
    done = record {
      ready = λ ok. absurd (true≢false (sym ok));
      settled = λ ok. absurd (true≢false (sym ok));
      shown = λ ok. absurd (true≢false (sym ok));
      crash = λ v image l. let w = left told v image l in (w.0, w.1);
      logged = λ v image l. subst (IsLogged (content_in (g.site a) v image)) (sym same_logs) (let w = left told v image l in w.2);
    };
  }

  -- as the volume was removed, or was not
  pub ends_done : (k : Memory) (ok : Type 0) → n.logs ≡ k.logs
      → HasDone (g.site a) (tab g a) (tab g new) (g.area a) (g.area new) (known k) (StoreLeaves g a) (StoreLeaves g new) ok (disks (store_content g a)) → HasImported g u bytes m n a new (Err f)
  ends_done k ok same_logs done = record {
    ends = disks (store_content g a);
    ends_with = same_ends (target_from g a m) u bytes (disks (store_content g a)) f;
    still = λ d i. i;
    others = λ d i. inr i;
    done = record {
      ready = λ ok. absurd (true≢false (sym ok));
      settled = λ ok. absurd (true≢false (sym ok));
      shown = λ ok. absurd (true≢false (sym ok));
      crash = λ v image l. done.crash v image l;
      logged = λ v image l. subst (IsLogged (content_in (g.site a) v image)) (sym same_logs) (done.logged v image l);
    };
  }

-- a store to which nothing was done
pub untouched : {S : Type 0} (g : Ghosts S) (a : S) (m : Memory) → LeavesNow g → IsBetweenSteps g a m → IsReadyStore g a m → LeavesStill g m a a
untouched g a m leaves session ready = (so_far_first {g = g} {a = a} m leaves session.usable session.orderly ready).left

-- ---- since the begin

-- what an import is begun on
abbrev pub begin_of : {S : Type 0} → S → Memory → List ℕ → Begin S
begin_of s m u = record { store = s; memory = m; disk = u }

-- nothing was done yet
pub since_new : {S : Type 0} (g : Ghosts S) (a : S) (k : Memory) (w : List ℕ) (s : S) (m : Memory) (u : List ℕ) (b v : Bool) → s ≡ a → m ≡ k → u ≡ w → b ≡ false → v ≡ false → IsSince g (begin_of a k w) s m u b v
since_new g a k w s m u b v store memory disk unbegun going = record {
  memory = memory;
  disk = disk;
  site = ap g.site store;
  beside = λ told. subst (λ x. Keeps (g.beside a) (g.beside x)) (sym store) (Keeps-none (g.beside a));
  unbegun = λ whole new. store;
  goes_on = λ told ready whole begun. absurd (true≢false (sym begun ∙ unbegun));
  stops = λ told ready over. absurd (true≢false (sym over ∙ going));
  counts = let same = ap g.faults store in omega (arith, same);
  failed = λ over begun. absurd (true≢false (sym over ∙ going));
  few = λ whole begun. absurd (true≢false (sym begun ∙ unbegun));
  no_lower = lower_same g a s store;
}

-- the disk's volume stands, by what was taken out of it
pub since_at : {S : Type 0} (g : Ghosts S) (o : Begin S) (s s' : S) (m m' : Memory) (u v : List ℕ) (b w : Bool) → s' ≡ s → m' ≡ m → v ≡ u → b ≡ true → w ≡ false
    → IsSince g o s m v b w → g.told → IsReadyStore g o.store o.memory → ImportsSince g u m' o.store s'
since_at g o s s' m m' u v b w store memory named begun going since told ready =
    subst₂ (λ x y. ImportsSince g x y o.store s') (sym since.disk ∙ named) (sym since.memory ∙ sym memory)
    (subst (ImportsSince g o.disk o.memory o.store) (sym store) (since.goes_on told ready going begun))

-- ---- no volume is there

module _ {S : Type 0} (g : Ghosts S) (o : Begin S) (s : S) (m : Memory) (u : List ℕ) (leaves : LeavesNow g) where
  -- the import was over, or nothing was done
  pub still_unbegun : (b v : Bool) → IsSince g o s m u b v → b ≡ false → IsBetweenSteps g s m → g.told → IsReadyStore g o.store o.memory → LeavesStill g o.memory o.store s
  still_unbegun b true h new session told ready = h.stops told ready refl
  still_unbegun b false h new session told ready =
      let at = h.unbegun refl new in
      subst (LeavesStill g o.memory o.store) (sym at) (untouched g o.store o.memory leaves (subst₂ (IsBetweenSteps g) at h.memory session) ready)

-- the session is as before, and so is memory
pub with_memory : (P Q : Type 0) (r : Result ℕ ImportFault) → IfErr r (λ f. (f ≡ fault.Device → ⊥) → P) → Q → IfErr r (λ f. (f ≡ fault.Device → ⊥) → P × Q)
with_memory P Q (Ok n) h q = tt
with_memory P Q (Err f) h q = λ other. (h other, q)

-- ---- faults

-- the source's count never falls
source_grew : (s s' d d' : ℕ) (f : ImportFault) → FaultCounts s s' d d' f → s ≤ s'
source_grew s s' d d' (fault.Refused r) h = omega (arith, h.0)
source_grew s s' d d' fault.Long h = omega (arith, h.0)
source_grew s s' d d' fault.Device h = omega (arith, h.2)
source_grew s s' d d' fault.Source h = h.0
source_grew s s' d d' fault.NoMemory h = omega (arith, h.0)

-- where no call failed since, the fault says at the end what it said
same_counts : (s s' d d' e : ℕ) (f : ImportFault) → e ≡ d' → FaultCounts s s' d d' f → EndFaultCounts s s' d e f
same_counts s s' d d' e (fault.Refused r) same h = (h.0, same ∙ h.1)
same_counts s s' d d' e fault.Long same h = (h.0, same ∙ h.1)
same_counts s s' d d' e fault.Device same h = (omega (arith, h.2), omega (arith, h.0, same), omega (arith, h.1, same))
same_counts s s' d d' e fault.Source same h = (h.0, h.1, same ∙ h.2)
same_counts s s' d d' e fault.NoMemory same h = (h.0, same ∙ h.1)

-- what is counted at the end, by what was counted while the file was read, and behind that
pub end_counts : {S : Type 0} (g : Ghosts S) (a old new : S) (cut : Type 0) (f : ImportFault) (s s' : ℕ) (result : Result ℕ ImportFault)
    → FaultCounts s s' (g.faults a) (g.faults old) f → (cut → Rose (g.faults a) (g.faults old)) → g.faults a ≤ g.faults old
    → IfErr result (UndoCounts g cut f old new) → OnOk result ⊥ → EndCounts result s s' (g.faults a) (g.faults new)
end_counts g a old new cut f s s' (Ok n) read failed grown undone fails = absurd fails
end_counts g a old new cut f s s' (Err e) read failed grown undone fails = (
  tt,
  ⊎_elim
      (λ still. subst (EndFaultCounts s s' (g.faults a) (g.faults new)) (sym still.0) (same_counts s s' (g.faults a) (g.faults old) (g.faults new) f still.1 read))
      (λ device. subst (EndFaultCounts s s' (g.faults a) (g.faults new)) (sym device.0) (
        source_grew s s' (g.faults a) (g.faults old) f read,
        omega (arith, grown, device.1),
        ⊎_elim (λ rose. omega (arith, grown, rose)) (λ was. let rose = failed was in omega (arith, rose, device.1)) device.2,
      ))
      undone,
)
