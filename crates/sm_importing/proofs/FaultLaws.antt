-- Why nothing was put, and why the volume has no room: the one tells the other.
use Rattle.std.proofs.Common.{◌≡◌, Bool, true, false, Result, Ok, Err, refl, sym, ap, ◌∙◌}
use Rattle.std.proofs.lemmas.Bool.{true≢false}
use Rattle.vhd_import.specs.declared.disks.PutFault.{PutFault}
use Rattle.vhd_import.specs.declared.disks.PutFault.TheVariants as put
use Rattle.sm_importing.specs.declared.faults.RoomFault.{RoomFault}
use Rattle.sm_importing.specs.declared.faults.RoomFault.TheVariants as room
use Rattle.sm_importing.specs.Disks.{is_device, put_fault}

abbrev is_err : {E : Type 0} → Result (Unit {0}) E → Bool
is_err (Ok x) = false
is_err (Err e) = true

-- a call that succeeded did not fail
pub ok_not : {E : Type 0} (r : Result (Unit {0}) E) (x : Unit {0}) (e : E) → r ≡ Ok x → r ≡ Err e → ⊥
ok_not r x e fine failed = true≢false (sym (ap is_err failed) ∙ ap is_err fine)

-- a call fails for one reason
pub err_same : {E : Type 0} (x y : E) (a : Result (Unit {0}) E) → a ≡ Err x → a ≡ Err y → x ≡ y
err_same {E} x y a one two = ap (λ (r : Result (Unit {0}) E). elim r [ Ok z ↦ x | Err z ↦ z ]) (sym one ∙ two)

device_put : (f : RoomFault) → put_fault f ≡ put.Device → f ≡ room.Device
device_put room.Device e = refl
device_put room.NoMemory e = absurd (true≢false (sym (ap is_device e)))
device_put (room.NoSpace need left) e = absurd (true≢false (sym (ap is_device e)))

-- one that the device had
pub put_device : (p : PutFault) → is_device p ≡ true → p ≡ put.Device
put_device put.Device e = refl
put_device put.NoMemory e = absurd (true≢false (sym e))
put_device (put.NoSpace need left) e = absurd (true≢false (sym e))

-- the device had no fault
pub not_device : (r : Result (Unit {0}) PutFault) (p : PutFault) → r ≡ Err p → is_device p ≡ false → r ≡ Err put.Device → ⊥
not_device r p is other e = true≢false (sym (ap is_device (err_same p put.Device r is e)) ∙ other)

-- a put that fails so
abbrev failed_by : PutFault → Result (Unit {0}) PutFault
failed_by p = Err p

module _ (r : Result (Unit {0}) RoomFault) (f : RoomFault) (p : PutFault) (failed : r ≡ Err f) (why : p ≡ put_fault f) where
  -- the device had a fault
  pub device_is : failed_by p ≡ Err put.Device → r ≡ Err room.Device
  device_is e = failed ∙ ap Err (device_put f (sym why ∙ err_same p put.Device (failed_by p) refl e))

  -- it had none
  pub device_not : (failed_by p ≡ Err put.Device → ⊥) → r ≡ Err room.Device → ⊥
  device_not calm e = calm (ap failed_by (why ∙ ap put_fault (err_same f room.Device r failed e)))
