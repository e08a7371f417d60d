-- What is owed where a call succeeds, or where it fails.
use Rattle.std.proofs.Common.{◌≡◌, Result, Ok, Err, OnOk, OnErr, refl, subst}

pub ok_by : {E Q : Type 0} (r : Result (Unit {0}) E) → (r ≡ Ok tt → Q) → OnOk r Q
ok_by (Ok x) f = f refl
ok_by (Err e) f = tt

pub ok_has : {E P : Type 0} (r : Result (Unit {0}) E) → r ≡ Ok tt → OnOk r P → P
ok_has {P = P} r is h = subst (λ x. OnOk x P) is h

pub err_by : {E Q : Type 0} (r : Result (Unit {0}) E) → ((e : E) → r ≡ Err e → Q) → OnErr r Q
err_by (Ok x) f = tt
err_by (Err e) f = f e refl

pub err_has : {E P : Type 0} (r : Result (Unit {0}) E) (e : E) → r ≡ Err e → OnErr r P → P
err_has {P = P} r e is h = subst (λ x. OnErr x P) is h

-- what holds where it succeeds and where it fails
pub by_result : {E P : Type 0} (r : Result (Unit {0}) E) → OnOk r P → OnErr r P → P
by_result (Ok x) fine failed = fine
by_result (Err e) fine failed = failed
