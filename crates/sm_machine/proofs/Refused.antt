-- A refused command changes nothing.
use Rattle.std.proofs.Common.{◌≡◌, List, Option, Some, None, refl}
use Rattle.sm_base.specs.declared.refusals.Refusal.{Refusal}
use Rattle.sm_machine.specs.declared.commands.Command.{Command}
use Rattle.sm_machine.specs.declared.commands.Command.TheVariants.{Create, Delete, Attach, Detach, Snapshot, Clone, Resize, Label, Write, Fill, Read, Flush, Gc, List as Listing, Stat, Track, Changed}
use Rattle.sm_machine.specs.declared.replies.Reply.TheVariants as reply
use Rattle.sm_machine.specs.Disks.{Disk}
use Rattle.sm_machine.specs.Shapes.{Shape}
use Rattle.sm_machine.specs.Refusals.{refusal}
use Rattle.sm_machine.specs.Steps.{State, reply_to, accepted, unless_refused, step}
use Rattle.sm_machine.specs.Tracking.{tracked_step, tracked_unless}

-- an accepted command is not answered with a refusal
accepted_reply : (disks : List Disk) (s : Shape) (c : Command) (r : Refusal) → reply_to disks s c ≡ reply.No r → ⊥
unfolding reply_to
accepted_reply disks s (Create u size raw label) r e = cc
accepted_reply disks s (Delete u) r e = cc
accepted_reply disks s (Attach u mode) r e = cc
accepted_reply disks s (Detach u) r e = cc
accepted_reply disks s (Snapshot u twin) r e = cc
accepted_reply disks s (Clone u twin) r e = cc
accepted_reply disks s (Resize u size) r e = cc
accepted_reply disks s (Label u text) r e = cc
accepted_reply disks s (Write u sector bytes) r e = cc
accepted_reply disks s (Fill u sector count byte) r e = cc
accepted_reply disks s (Read u sector count) r e = cc
accepted_reply disks s (Flush u) r e = cc
accepted_reply disks s Gc r e = cc
accepted_reply disks s Listing r e = cc
accepted_reply disks s Stat r e = cc
accepted_reply disks s (Track u on) r e = cc
accepted_reply disks s (Changed u n) r e = cc

by_refusal : (o : Option Refusal) (σ : State) (c : Command) (r : Refusal) → (unless_refused o σ c).reply ≡ reply.No r → (unless_refused o σ c).after ≡ σ
unfolding accepted
by_refusal (Some q) σ c r e = refl
by_refusal None σ c r e = absurd (accepted_reply σ.disks σ.shape c r e)

pub refused_keeps : (σ : State) (c : Command) (r : Refusal) → (step σ c).reply ≡ reply.No r → (step σ c).after ≡ σ
unfolding step
refused_keeps σ c r e = by_refusal (refusal σ.shape c) σ c r e

tracked_by : (o : Option Refusal) (σ : State) (c : Command) (r : Refusal) → (tracked_unless o σ c).reply ≡ reply.No r → (tracked_unless o σ c).after ≡ σ
unfolding accepted
tracked_by (Some q) σ c r e = refl
tracked_by None σ c r e = absurd (accepted_reply σ.disks σ.shape c r e)

pub tracked_refused : (σ : State) (c : Command) (r : Refusal) → (tracked_step σ c).reply ≡ reply.No r → (tracked_step σ c).after ≡ σ
unfolding tracked_step
tracked_refused σ c r e = tracked_by (refusal σ.shape c) σ c r e
