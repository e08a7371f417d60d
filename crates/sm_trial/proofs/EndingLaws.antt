-- What a list and a stat are answered.
use Rattle.std.proofs.Common.{◌≡◌, ◌⊎◌, inl, inr, ℕ, ◌+◌, ◌-◌, List, [], ◌∷◌, map, length, Option, None, sym, ap, ◌∙◌, arith}
use Rattle.std.proofs.lemmas.Bool.{le-ltb}
use Rattle.std.proofs.lemmas.List.{length-map}
use Rattle.common_laws.specs.Lists.{first_some, given}
use Rattle.sm_base.specs.declared.refusals.Refusal.{Refusal}
use Rattle.sm_base.specs.declared.refusals.Refusal.TheVariants.{NoMemory, NoSpace}
use Rattle.sm_machine.specs.declared.commands.Command.TheVariants.{List as Listing, Stat}
use Rattle.sm_machine.specs.declared.replies.DiskRow.{DiskRow}
use Rattle.sm_machine.specs.declared.replies.Reply.{Reply}
use Rattle.sm_machine.specs.declared.replies.Reply.TheVariants as reply
use Rattle.sm_machine.specs.Refusals.{refusal, is_reserved, is_unknown, is_taken, is_in_use, is_not_attached, is_read_only, is_raw_disk, is_tracked, is_untracked, is_out_of_range, is_bad_size, is_shrink, is_deep, is_too_many, is_spent, lacks_space, need, named, new_uuid, forked}
use Rattle.sm_machine.specs.Shapes.{Shape, free, image_extents}
use Rattle.sm_machine.specs.Stats.{Stats}
use Rattle.sm_machine.specs.Steps.{State, Outcome, accepted, disk_row, reply_to, shape_after, stat_row, stats}
use Rattle.sm_machine.specs.Tracking.{logs_after, log_commits, tracked_step, tracked_unless, with_tracked}
use Rattle.sm_machine.specs.Commits.{is_given_up, gives_up}
use Rattle.sm_machine.specs.Steps.{shape_next}

never_list : (s : Shape) → refusal s Listing ≡ None
unfolding refusal is_reserved is_unknown is_taken is_in_use is_not_attached is_read_only is_raw_disk is_tracked is_untracked is_out_of_range is_bad_size is_shrink is_deep is_too_many is_spent lacks_space need named new_uuid forked
never_list s = ap (λ b. first_some (given b (NoSpace 0 (free s)) ∷ [])) (le-ltb (free s) 0 (omega arith))

never_stat : (s : Shape) → refusal s Stat ≡ None
unfolding refusal is_reserved is_unknown is_taken is_in_use is_not_attached is_read_only is_raw_disk is_tracked is_untracked is_out_of_range is_bad_size is_shrink is_deep is_too_many is_spent lacks_space need named new_uuid forked
never_stat s = ap (λ b. first_some (given b (NoSpace 0 (free s)) ∷ [])) (le-ltb (free s) 0 (omega arith))

list_is : (σ : State) → tracked_step σ Listing ≡ with_tracked σ.shape Listing (accepted σ Listing)
unfolding tracked_step
list_is σ = ap (λ (r : Option Refusal). tracked_unless r σ Listing) (never_list σ.shape)

stat_is : (σ : State) → tracked_step σ Stat ≡ with_tracked σ.shape Stat (accepted σ Stat)
unfolding tracked_step
stat_is σ = ap (λ (r : Option Refusal). tracked_unless r σ Stat) (never_stat σ.shape)

pub list_reply : (σ : State) → (tracked_step σ Listing).reply ≡ reply.List (map disk_row σ.disks)
unfolding accepted reply_to
list_reply σ = ap (λ (o : Outcome). o.reply) (list_is σ)

pub stat_reply : (σ : State) → (tracked_step σ Stat).reply ≡ reply.Stat (stats σ.shape)
unfolding accepted reply_to
stat_reply σ = ap (λ (o : Outcome). o.reply) (stat_is σ)

-- a list leaves the images and the free extents
pub list_images : (σ : State) → length ((tracked_step σ Listing).after).shape.images ≡ length σ.shape.images
unfolding accepted shape_next shape_after is_given_up gives_up
list_images σ = ap (λ (o : Outcome). length o.after.shape.images) (list_is σ)

less_more : (a b : ℕ) → a + b - b ≡ a
less_more a b = omega arith

pub list_free : (σ : State) → free ((tracked_step σ Listing).after).shape ≡ free σ.shape
unfolding accepted shape_next shape_after is_given_up gives_up free logs_after log_commits
list_free σ = ap (λ (o : Outcome). free o.after.shape) (list_is σ) ∙ ap (λ (x : ℕ). σ.shape.extents - (x + image_extents σ.shape.images)) (less_more σ.shape.others _)

un_list : (a b : List DiskRow) → reply.List a ≡ reply.List b → a ≡ b
un_list a b h = cc h

un_stat : (a b : Stats) → reply.Stat a ≡ reply.Stat b → a ≡ b
un_stat a b h = cc h

no_list : (a : List DiskRow) (r : Refusal) → reply.List a ≡ reply.No r → ⊥
no_list a r h = cc h

no_stat : (a : Stats) (r : Refusal) → reply.Stat a ≡ reply.No r → ⊥
no_stat a r h = cc h

-- the disks are as many as the rows of a list
pub listed : (σ σ' : State) (rows : List DiskRow) (r : Reply) → r ≡ reply.List rows
    → ((r ≡ reply.No NoMemory) × (σ' ≡ σ)) ⊎ ((r ≡ (tracked_step σ Listing).reply) × (σ' ≡ (tracked_step σ Listing).after))
    → (length rows ≡ length σ.disks) × (σ' ≡ (tracked_step σ Listing).after)
listed σ σ' rows r is (inl poor) = absurd (no_list rows NoMemory (sym is ∙ poor.0))
listed σ σ' rows r is (inr whole) =
    let same : rows ≡ map disk_row σ.disks = un_list rows (map disk_row σ.disks) (sym is ∙ whole.0 ∙ list_reply σ) in
    (ap length same ∙ length-map σ.disks disk_row, whole.1)

-- and the images as those of a stat
pub counted : (σ σ' : State) (x : Stats) (r : Reply) → r ≡ reply.Stat x
    → ((r ≡ reply.No NoMemory) × (σ' ≡ σ)) ⊎ ((r ≡ (tracked_step σ Stat).reply) × (σ' ≡ (tracked_step σ Stat).after))
    → (length x.rows ≡ length σ.shape.images) × (x.free ≡ free σ.shape) × (σ' ≡ (tracked_step σ Stat).after)
counted σ σ' x r is (inl poor) = absurd (no_stat x NoMemory (sym is ∙ poor.0))
counted σ σ' x r is (inr whole) =
    let same : x ≡ stats σ.shape = un_stat x (stats σ.shape) (sym is ∙ whole.0 ∙ stat_reply σ) in
    (ap (λ (y : Stats). length y.rows) same ∙ length-map σ.shape.images (stat_row σ.shape), ap (λ (y : Stats). y.free) same, whole.1)
