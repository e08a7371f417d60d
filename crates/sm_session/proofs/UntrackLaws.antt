-- The log of a deleted disk goes, where it had one: what is known where it had none, and of the shape where it had one.
use Rattle.std.proofs.Common.{◌≡◌, ◌+◌, ◌-◌, ◌<◌, ◌^◌, inl, List, ℕ, Option, Some, None, Result, OnOk, Ok, Err, refl, sym, ap, ap₂, ◌∙◌, arith}
use Rattle.std.specs.Prelude.{IsSome}
use Rattle.std.proofs.lemmas.Bool.{true≢false}
use Rattle.vg_volumes.specs.declared.stores.Store.{Ghosts}
use Rattle.sm_log.specs.Logs.{Log, log_extents, log_of, without_log}
use Rattle.sm_logs.proofs.OrderLaws.{without_none}
use Rattle.sm_machine.specs.Refusals.{of_log}
use Rattle.sm_machine.specs.Shapes.{Shape, risen}
use Rattle.sm_machine.specs.Tracking.{ended, with_logs}
use Rattle.sm_ready.specs.Does.{store_shape}
use Rattle.sm_ready.specs.Known.{shape_in}
use Rattle.sm_ready.specs.declared.memory.Memory.{Memory}
use Rattle.sm_ready.proofs.LogStores.{logs_stop, logs_told}
use Rattle.sm_ready.proofs.ShowLaws.{kept_ready}
use Rattle.sm_ready.proofs.TakenLaws.{IsTold}
use Rattle.sm_tracking.specs.Tracking.{HasChangedLogs}

-- no log is taken out where there is none
pub none_removed : (s : Shape) (u : List ℕ) → log_of u s.logs ≡ None → s.sequence < 2 ^ 48 → s ≡ with_logs (without_log u s.logs) (of_log (λ l. 1) (log_of u s.logs)) s
none_removed s u none few =
    let n : risen s.sequence 0 ≡ s.sequence = omega (arith, few) in
    let o : s.others + log_extents s.logs - log_extents s.logs ≡ s.others = omega arith in
    sym (ap₂ (λ (x y : ℕ). let t : Shape = record s { sequence = x; others = y } in t) n o)
    ∙ ap₂ (λ (ls : List Log) (k : ℕ). with_logs ls k s) (sym (without_none s.logs u none)) (ap (of_log (λ (l : Log). 1)) (sym none))

-- and memory is as it was
pub memory_less : (m : Memory) (u : List ℕ) → log_of u m.logs ≡ None → m ≡ record m { logs = without_log u m.logs }
memory_less m u none = ap (λ (ls : List Log). let n : Memory = record m { logs = ls } in n) (sym (without_none m.logs u none))

-- of a store that no call was made of
pub nothing_removed : {S : Type 0} {g : Ghosts S} {a : S} {m : Memory} (u : List ℕ) (ok : Type 0) → IsTold g a m → log_of u m.logs ≡ None → HasChangedLogs g a m a m (without_log u m.logs) ok
nothing_removed {S} {g} {a} {m} u ok h none = record {
  ready = λ fine. h.ready;
  settled = λ fine s. s;
  shown = refl;
  crash = λ v image l. (kept_ready h v image l, record { table = v; image = image; left = l; shown = refl });
  logged = λ v image l w. (log_of w m.logs, logs_stop g a (logs_told h) h.orderly.table h.now v image l w, inl refl);
}

-- where it had one the shape is that of the machine by one commit
pub one_removed : (s t : Shape) (u : List ℕ) (ls : List Log) → s.logs ≡ ls → IsSome (log_of u ls) → t ≡ ended s u → t ≡ with_logs (without_log u ls) (of_log (λ l. 1) (log_of u ls)) s
one_removed s t u ls same some is = is ∙ ap₂ (λ (xs : List Log) (k : ℕ). with_logs (without_log u xs) k s) same (by (log_of u ls) some)
  where
    by : (o : Option Log) → IsSome o → 1 ≡ of_log (λ l. 1) o
    by None e = absurd (true≢false (sym e))
    by (Some l) e = refl

pub on_removed : {S : Type 0} (g : Ghosts S) (a b : S) (m n : Memory) (u : List ℕ) {E : Type 0} (r : Result (Unit {0}) E) → IsSome (log_of u m.logs) → OnOk r (store_shape g b n ≡ ended (store_shape g a m) u)
    → OnOk r (store_shape g b n ≡ with_logs (without_log u m.logs) (of_log (λ l. 1) (log_of u m.logs)) (store_shape g a m))
unfolding shape_in
on_removed g a b m n u (Ok v) some is = one_removed (store_shape g a m) (store_shape g b n) u m.logs refl some is
on_removed g a b m n u (Err e) some is = tt
