-- Room for changes, one after the other: more of it is enough too.
use Rattle.std.proofs.Common.{ℕ, ◌≤◌, Bool, false, true, cond, List, [], ◌∷◌, ◌++◌, arith}
use Rattle.sm_base.specs.declared.names.Name.{Name}
use Rattle.vg_meta.specs.Changes.{HasRoom, places_after, spare_after}
use Rattle.vg_meta.specs.Roomy.{RoomyTable, places}
use Rattle.vg_meta.specs.Tables.{name_eq}
use Rattle.vg_meta.specs.declared.changes.Change.{Change}
use Rattle.vg_meta.specs.declared.changes.Change.TheVariants.{Create, Remove, Rename, Grow, Cut, Mark}
use Rattle.sm_calls.specs.Calls.{IsEnoughFor, RoomFor}

cond_less : (b : Bool) {x y u v : ℕ} → x ≤ y → u ≤ v → cond b x u ≤ cond b y v
cond_less true first second = first
cond_less false first second = second

more_places : (c : Change) (p q : Name → ℕ) → ((n : Name) → p n ≤ q n) → (n : Name) → places_after p c n ≤ places_after q c n
more_places (Create name fresh es) p q le n = cond_less (name_eq n name) (omega arith) (le n)
more_places (Remove name) p q le n = cond_less (name_eq n name) (omega arith) (le n)
more_places (Rename from to) p q le n = cond_less (name_eq n to) (le from) (cond_less (name_eq n from) (omega arith) (le n))
more_places (Grow name es) p q le n = cond_less (name_eq n name) (omega (arith, le n)) (le n)
more_places (Cut name keep) p q le n = le n
more_places (Mark name tag on) p q le n = le n

more_spare : (c : Change) (x y : ℕ) → x ≤ y → spare_after x c ≤ spare_after y c
more_spare (Create name fresh es) x y le = omega (arith, le)
more_spare (Remove name) x y le = omega (arith, le)
more_spare (Rename from to) x y le = le
more_spare (Grow name es) x y le = le
more_spare (Cut name keep) x y le = le
more_spare (Mark name tag on) x y le = le

more_for : (c : Change) (x y : ℕ) (p q : Name → ℕ) → x ≤ y → ((n : Name) → p n ≤ q n) → IsEnoughFor x p c → IsEnoughFor y q c
more_for (Create name fresh es) x y p q le each room = omega (arith, le, room)
more_for (Remove name) x y p q le each room = tt
more_for (Rename from to) x y p q le each room = tt
more_for (Grow name es) x y p q le each room = omega (arith, each name, room)
more_for (Cut name keep) x y p q le each room = tt
more_for (Mark name tag on) x y p q le each room = tt

-- with more room it goes as well
pub more_room : (cs : List Change) (x y : ℕ) (p q : Name → ℕ) → x ≤ y → ((n : Name) → p n ≤ q n) → RoomFor x p cs → RoomFor y q cs
more_room [] x y p q le each room = tt
more_room (c ∷ cs) x y p q le each room =
    (more_for c x y p q le each room.0, more_room cs (spare_after x c) (spare_after y c) (places_after p c) (places_after q c) (more_spare c x y le) (more_places c p q each) room.1)

-- what a commit asks, where the room is said by numbers
pub room_for : (k : RoomyTable) (c : Change) → IsEnoughFor k.spare (places k) c → HasRoom k c
room_for k (Create name fresh es) room = room
room_for k (Remove name) room = tt
room_for k (Rename from to) room = tt
room_for k (Grow name es) room = room
room_for k (Cut name keep) room = tt
room_for k (Mark name tag on) room = tt

-- of changes in two parts
pub room_front : (xs ys : List Change) (x : ℕ) (p : Name → ℕ) → RoomFor x p (xs ++ ys) → RoomFor x p xs
room_front [] ys x p room = tt
room_front (c ∷ xs) ys x p room = (room.0, room_front xs ys (spare_after x c) (places_after p c) room.1)
