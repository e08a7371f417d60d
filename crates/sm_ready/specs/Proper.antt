-- That memory is orderly, and that a session is between two steps, has one proof at most, so a session can carry it.
use Rattle.std.specs.Prelude.{ℕ}
use Rattle.std.proofs.Props.{props}
use Rattle.sm_base.specs.declared.sizes.Geometry.{Geometry}
use Rattle.sm_machine.specs.Operations.{Op}
use Rattle.vg_meta.specs.Tables.{VolumeTable}
use Rattle.vg_meta.specs.Proper.{IsName-prop}
use Rattle.vg_volumes.specs.Sites.{Site}
use Rattle.sm_machine.specs.Shapes.{Shape}
use Rattle.vhd_image.specs.declared.images.Body.{Body}
use Rattle.vhd_image.specs.Bodies.{StandsIn}
use Rattle.vhd_image.specs.declared.images.Body.TheVariants.{Raw, Vhd}
use Rattle.vg_volumes.specs.declared.stores.Store.{Ghosts}
use Rattle.sm_ready.specs.Framing.{IsBetweenSteps}
use Rattle.sm_ready.specs.Known.{Known}
use Rattle.sm_ready.specs.Orderly.{IsOrderly, IsRoomyIn}
use Rattle.sm_ready.specs.Ready.{IsTidy}
use Rattle.sm_ready.specs.declared.memory.Memory.{Memory}
use Rattle.sm_machine.specs.Operations as op

StandsIn-prop : (g : Geometry) (n : ℕ) (b : Body) → IsProp (StandsIn g n b)
StandsIn-prop g n (Raw volume size) = hlevel props
StandsIn-prop g n (Vhd head m) = hlevel props

IsRoomyIn-prop : (s : Shape) (o : Op) → IsProp (IsRoomyIn s o)
IsRoomyIn-prop s op.Idle = hlevel props
IsRoomyIn-prop s (op.Copy v p cursor) = hlevel props
IsRoomyIn-prop s (op.Relink v p) = hlevel props
IsRoomyIn-prop s (op.Leaf l p cursor) = hlevel props
IsRoomyIn-prop s (op.Live l p cursor dirty) = hlevel props

pub IsOrderly-prop : (s : Site) (t : VolumeTable) (m : Known) → IsProp (IsOrderly s t m)
IsOrderly-prop s t m = hlevel (props, IsName-prop, StandsIn-prop, IsRoomyIn-prop)

pub IsTidy-prop : (t : VolumeTable) (m : Known) → IsProp (IsTidy t m)
IsTidy-prop t m = hlevel props

pub IsBetweenSteps-prop : {S : Type 0} (g : Ghosts S) (s : S) (m : Memory) → IsProp (IsBetweenSteps g s m)
IsBetweenSteps-prop g s m = hlevel (props, IsOrderly-prop, IsTidy-prop)
