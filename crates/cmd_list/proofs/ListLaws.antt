-- The rows of the records are those of the disks.
use Rattle.std.proofs.Common.{◌≡◌, ℕ, zero, suc, ◌-◌, ◌*◌, ◌^◌, ◌<◌, ◌≤◌, inl, inr, Bool, true, false, cond, List, [], ◌∷◌, length, map, drop, Option, Some, None, unwrap_or, refl, sym, ap, ap₂, ◌∙◌, subst, arith}
use Rattle.std.proofs.Math.Logic.{∥∥₁_elim}
use Rattle.std.proofs.Math.Nat.{min-eq_left}
use Rattle.std.proofs.Props.{props}
use Rattle.std.specs.Prelude.{slice_get}
use Rattle.std.proofs.lemmas.Bool.{le-ltb}
use Rattle.std.proofs.lemmas.List.{drop_all}
use Rattle.common_laws.specs.Lists.{In, given, first_some}
use Rattle.sm_base.specs.declared.refusals.Refusal.TheVariants.{NoSpace}
use Rattle.sm_disk.specs.Held.{Held}
use Rattle.vg_meta.specs.Tables.{VolumeTable}
use Rattle.vg_volumes.specs.Sites.{Site}
use Rattle.vhd_image.specs.Bodies.{sector_count}
use Rattle.vhd_chain.specs.declared.rows.TreeRow.{TreeRow}
use Rattle.sm_record.specs.declared.records.Record.{Record}
use Rattle.sm_machine.specs.Disks.{Disk}
use Rattle.sm_machine.specs.Shapes.{Shape, DiskRecord, free}
use Rattle.sm_machine.specs.Commits.{is_given_up, own_commits, gives_up}
use Rattle.sm_machine.specs.Steps.{State, Outcome, disk_row, step, with_record, accepted, disks_next, shape_after, reply_to}
use Rattle.sm_machine.specs.Refusals.{refusal, is_reserved, is_unknown, is_taken, is_in_use, is_not_attached, is_read_only, is_raw_disk, is_tracked, is_untracked, is_out_of_range, is_bad_size, is_shrink, is_deep, is_too_many, is_spent, lacks_space, need, named, new_uuid, forked}
use Rattle.sm_machine.specs.WellFormed.{IsWellFormed}
use Rattle.sm_machine.specs.declared.commands.Command.TheVariants.{List as ListDisks}
use Rattle.sm_machine.specs.declared.replies.DiskRow.{DiskRow}
use Rattle.sm_machine.specs.declared.replies.Reply.TheVariants as reply
use Rattle.sm_machine.proofs.Listed.{map-insert_by}
use Rattle.sm_standing.specs.Shapes.{disk_record}
use Rattle.sm_standing.specs.Standing.{disks}
use Rattle.sm_ready.specs.Known.{Known, machine_record, is_shown, records_in, shape_in, shown_places}
use Rattle.sm_ready.specs.Orderly.{IsOrderly}
use Rattle.sm_ready.specs.Ready.{IsReady}
use Rattle.sm_ready.specs.Sessions.{state_in}
use Rattle.sm_ready.specs.Stores.{content_now}
use Rattle.sm_ready.proofs.ShapeLaws.{records_now}
use Rattle.sm_ready.proofs.SizeLaws.{law_size}
use Rattle.sm_mgt.specs.Places.{place_count}
use Rattle.cmd_list.specs.Listed.{byte_size, shown_size, row_with, listed_row, is_row_before, with_row, with_listed, listed}
use Rattle.sm_ready.proofs.ShownLaws.{shown_row, shown_some, shown_none, few_sectors}
use Rattle.sm_ready.proofs.TakenLaws.{step_by, step_still}

-- a record of the machine as it is listed
abbrev row_of : List TreeRow → DiskRecord → DiskRow
row_of rows d = record { uuid = d.uuid; size = byte_size (unwrap_or (shown_size rows d.uuid) 0); read_only = d.read_only; origin = d.origin; label = d.label }

-- ---- the rows are those of the records that are shown, in the machine's order

more : (rows : List TreeRow) (d : DiskRecord) (ds : List DiskRecord) → map (row_of rows) (with_record d ds) ≡ with_row (row_of rows d) (map (row_of rows) ds)
unfolding with_record
more rows d ds = map-insert_by (row_of rows) _ is_row_before (λ x y. refl) d ds

sized : (rows : List TreeRow) (r : Record) (k : ℕ) → shown_size rows r.uuid ≡ Some k → listed_row rows r ≡ Some (row_of rows (machine_record r))
sized rows r k is = ap (row_with r) is ∙ ap (λ (o : Option ℕ). row_with r (Some (unwrap_or o 0))) (sym is)

listed_records : (s : Site) (t : VolumeTable) (m : Known) (places : List (Option Record)) → IsOrderly s t m → IsWellFormed (shape_in s t m) → listed m.rows places ≡ map (row_of m.rows) (records_in (shown_places m.rows places))
unfolding listed records_in
listed_records s t m [] o w = refl
listed_records s t m (None ∷ places) o w = listed_records s t m places o w
listed_records s t m (Some r ∷ places) o w = by (is_shown m.rows r.uuid) refl (listed_records s t m places o w)
  where
    ps : List (Option Record)
    ps = shown_places m.rows places

    by : (b : Bool) → is_shown m.rows r.uuid ≡ b → listed m.rows places ≡ map (row_of m.rows) (records_in ps)
        → with_listed (listed_row m.rows r) (listed m.rows places) ≡ map (row_of m.rows) (records_in (cond b (Some r ∷ ps) ps))
    by true is rest =
        let k = shown_some (λ q. sector_count q.image) s t m r.uuid o w is in
        ap₂ with_listed (sized m.rows r (sector_count k.0.image) k.3) rest ∙ sym (more m.rows (machine_record r) (records_in ps))
    by false is rest = ap (λ o. with_listed (row_with r o) (listed m.rows places)) (shown_none (λ q. sector_count q.image) m.rows r.uuid is) ∙ rest

-- ---- and those are the rows of the disks

pub told : (k : ℕ) → k ≤ 1044480 * 4096 → byte_size k ≡ k * 512
told k few = min-eq_left (omega (arith, few))

of_disk : (s : Site) (t : VolumeTable) (area : Held) (m : Known) (d : Disk) → IsOrderly s t m → IsReady s t area m → IsWellFormed (shape_in s t m) → In d (disks (content_now s t area))
    → row_of m.rows (disk_record d) ≡ disk_row d
of_disk s t area m d o ready w i =
    let h = law_size s t area m d o ready i in
    let size : byte_size (unwrap_or (shown_size m.rows d.uuid) 0) ≡ length d.sectors * 512 =
    ap (λ (x : Option ℕ). byte_size (unwrap_or x 0)) (shown_row (λ q. sector_count q.image) s t m h.row d.uuid o w h.there h.shown h.named)
    ∙ told (sector_count h.row.image) (few_sectors s t m h.row o w h.there)
    ∙ ap (λ k. k * 512) (sym h.size) in
    ap (λ (k : ℕ). let x : DiskRow = record { uuid = d.uuid; size = k; read_only = d.read_only; origin = d.origin; label = d.label } in x) size

-- elements that are turned twice, where both come to one turn
pub turned_twice : {A B C : Type 0} (g : B → C) (h : A → B) (f : A → C) (xs : List A) → ((x : A) → In x xs → g (h x) ≡ f x) → map g (map h xs) ≡ map f xs
turned_twice g h f [] same = refl
turned_twice {A} {B} {C} g h f (x ∷ xs) same = ap₂ (λ (y : C) (ys : List C). y ∷ ys) (same x (inl refl)) (turned_twice g h f xs (λ z i. same z (inr i)))

pub listed_now : (s : Site) (t : VolumeTable) (area : Held) (m : Known) → IsOrderly s t m → IsReady s t area m → IsWellFormed (shape_in s t m) → listed m.rows m.places ≡ map disk_row (disks (content_now s t area))
listed_now s t area m o ready w =
    listed_records s t m m.places o w
    ∙ ap (map (row_of m.rows)) (sym (records_now s t area m o ready w))
    ∙ turned_twice (row_of m.rows) disk_record disk_row (disks (content_now s t area)) (λ d i. of_disk s t area m d o ready w i)

-- ---- and so the machine answers

never : (s : Shape) → refusal s ListDisks ≡ None
unfolding refusal is_reserved is_unknown is_taken is_in_use is_not_attached is_read_only is_raw_disk is_tracked is_untracked is_out_of_range is_bad_size is_shrink is_deep is_too_many is_spent lacks_space need named new_uuid forked
never s = ap (λ b. first_some (given b (NoSpace 0 (free s)) ∷ [])) (le-ltb (free s) 0 (omega arith))

step_reply : (σ : State) → (step σ ListDisks).reply ≡ reply.List (map disk_row σ.disks)
unfolding accepted reply_to
step_reply σ = ap (λ (o : Outcome). o.reply) (step_by σ ListDisks None (never σ.shape))

-- and leaves the state
pub step_after : (σ : State) → σ.shape.sequence < 2 ^ 48 → (step σ ListDisks).after ≡ σ
unfolding disks_next shape_after own_commits is_given_up gives_up
step_after σ few = step_still σ ListDisks (never σ.shape) few refl refl refl refl

pub law_list : (s : Site) (t : VolumeTable) (area : Held) (m : Known) (rows : List DiskRow) → rows ≡ listed m.rows m.places → IsOrderly s t m → IsReady s t area m → reply.List rows ≡ (step (state_in s t area m) ListDisks).reply
law_list s t area m rows is o ready =
    ap reply.List (∥∥₁_elim o.well_formed (hlevel props) (λ w. is ∙ listed_now s t area m o ready w)) ∙ sym (step_reply (state_in s t area m))

-- ---- one place after another, the last first

place_at : (places : List (Option Record)) (k : ℕ) (x : Option Record) → slice_get places k ≡ Some x → drop k places ≡ x ∷ drop (suc k) places
place_at [] k x e = absurd cc
place_at (y ∷ places) zero x e = let same : y ≡ x = cc in ap (λ (z : Option Record). z ∷ places) same
place_at (y ∷ places) (suc k) x e = place_at places k x e

place_before : (places : List (Option Record)) (k : ℕ) (x : Option Record) → 0 < k → slice_get places (k - 1) ≡ Some x → drop (k - 1) places ≡ x ∷ drop k places
place_before places k x some at =
    let up : suc (k - 1) ≡ k = omega (arith, some) in
    place_at places (k - 1) x at ∙ ap (λ n. x ∷ drop n places) up

-- the rows of the places from one on
abbrev pub AreListed : List TreeRow → List (Option Record) → ℕ → List DiskRow → Type 0
AreListed rows places k so_far = length places ≡ place_count → so_far ≡ listed rows (drop k places)

-- none so far
pub none_yet : (rows : List TreeRow) (places : List (Option Record)) (so_far : List DiskRow) → so_far ≡ [] → AreListed rows places place_count so_far
unfolding listed
none_yet rows places so_far none long = none ∙ sym (ap (listed rows) (drop_all place_count places (omega (arith, long))))

-- a place that is free
pub next_free : (rows : List TreeRow) (places : List (Option Record)) (k : ℕ) (so_far : List DiskRow) → 0 < k → slice_get places (k - 1) ≡ Some None → AreListed rows places k so_far → AreListed rows places (k - 1) so_far
unfolding listed
next_free rows places k so_far some at done long = done long ∙ sym (ap (listed rows) (place_before places k None some at))

next_listed : (rows : List TreeRow) (places : List (Option Record)) (k : ℕ) (r : Record) (so_far : List DiskRow) → 0 < k → slice_get places (k - 1) ≡ Some (Some r) → AreListed rows places k so_far
    → AreListed rows places (k - 1) (with_listed (listed_row rows r) so_far)
unfolding listed
next_listed rows places k r so_far some at done long = ap (with_listed (listed_row rows r)) (done long) ∙ sym (ap (listed rows) (place_before places k (Some r) some at))

-- one whose record is stray
pub next_stray : (rows : List TreeRow) (places : List (Option Record)) (k : ℕ) (r : Record) (so_far : List DiskRow) → 0 < k → slice_get places (k - 1) ≡ Some (Some r) → listed_row rows r ≡ None
    → AreListed rows places k so_far → AreListed rows places (k - 1) so_far
next_stray rows places k r so_far some at stray done = subst (λ o. AreListed rows places (k - 1) (with_listed o so_far)) stray (next_listed rows places k r so_far some at done)

-- and one with a row
pub next_row : (rows : List TreeRow) (places : List (Option Record)) (k : ℕ) (r : Record) (x : DiskRow) (so_far now : List DiskRow) → 0 < k → slice_get places (k - 1) ≡ Some (Some r) → listed_row rows r ≡ Some x
    → now ≡ with_row x so_far → AreListed rows places k so_far → AreListed rows places (k - 1) now
next_row rows places k r x so_far now some at is put done =
    subst (AreListed rows places (k - 1)) (sym put) (subst (λ o. AreListed rows places (k - 1) (with_listed o so_far)) is (next_listed rows places k r so_far some at done))
