-- What a guest's read asks, and that it answers as the machine says.
use Rattle.std.proofs.Common.{◌≡◌, ℕ, ◌+◌, ◌*◌, ◌^◌, ◌<◌, ◌≤◌, nat_lt, ◌||◌, Bool, true, false, List, ◌++◌, length, take, Option, Some, None, refl, sym, ap, ◌∙◌, arith}
use Rattle.std.proofs.Math.Logic.{∥∥₁_elim}
use Rattle.std.proofs.Props.{props}
use Rattle.std.proofs.lemmas.Bool.{true≢false, ltb-false}
use Rattle.std.proofs.lemmas.List.{take-append-le, take_all}
use Rattle.std.specs.List.{find}
use Rattle.common_laws.specs.Lists.{In}
use Rattle.sm_disk.specs.Held.{Held, IsWhole}
use Rattle.sm_disk.specs.Sectors.{sector as sector_of}
use Rattle.vg_meta.specs.Tables.{VolumeTable}
use Rattle.vg_volumes.specs.Sites.{Site}
use Rattle.vhd_image.specs.Bodies.{sector_count}
use Rattle.vhd_chain.specs.Reading.{chain_reads}
use Rattle.vhd_chain.specs.Trees.{row_name, tree_row}
use Rattle.vhd_chain.specs.declared.rows.TreeRow.{TreeRow}
use Rattle.sm_machine.specs.declared.commands.Command.TheVariants.{Read}
use Rattle.sm_machine.specs.Disks.{bytes_at, is_disk}
use Rattle.sm_machine.specs.Refusals.{refusal, is_outside, is_out_of_range, named}
use Rattle.sm_machine.specs.Shapes.{Shape, image_uuid}
use Rattle.sm_machine.specs.Commits.{own_commits, is_given_up, gives_up}
use Rattle.sm_machine.specs.Steps.{State, Outcome, accepted, disks_next, read_from, reply_to, shape_after, step}
use Rattle.sm_machine.specs.declared.replies.Reply.TheVariants.{Bytes}
use Rattle.sm_machine.proofs.Passed.{passed}
use Rattle.sm_standing.specs.Images.{image_reads}
use Rattle.sm_standing.specs.Standing.{disks}
use Rattle.sm_ready.specs.Known.{Known, shape_in}
use Rattle.sm_ready.specs.Orderly.{IsOrderly}
use Rattle.sm_ready.specs.Ready.{IsReady}
use Rattle.sm_ready.specs.Stores.{content_now}
use Rattle.sm_ready.proofs.Orders.{In-tree_row}
use Rattle.sm_ready.proofs.ShownLaws.{few_sectors}
use Rattle.sm_ready.proofs.WrittenLaws.{read_of}
use Rattle.cmd_guest.proofs.AskLaws.{within_own}
use Rattle.cmd_guest.proofs.NowLaws.{chain_now, disk_found, disk_own, row_now}
use Rattle.cmd_guest.proofs.OwnLaws.{own_shown, own_there, own_uuid}
use Rattle.cmd_guest.specs.Writing.{own_name}
use Rattle.cmd_guest.proofs.SectorLists.{bytes_read}
use Rattle.sm_ready.proofs.TakenLaws.{step_accepted}
use Rattle.cmd_guest.proofs.TakenLaws.{whole_still}

pub or_none : (a b : Bool) → (a || b) ≡ false → (a ≡ false) × (b ≡ false)
or_none true b e = absurd (true≢false e)
or_none false b e = (refl, e)

pub read_range : (s : Shape) (u : List ℕ) (sector count : ℕ) → refusal s (Read u sector count) ≡ None → (is_outside s u sector count ≡ false) × (count ≤ 128)
unfolding is_out_of_range
read_range s u sector count allowed =
    let h = or_none (is_outside s u sector count) (nat_lt 128 count) (passed s (Read u sector count) allowed).out_of_range in
    (h.0, ltb-false 128 count h.1)

module _ (s : Site) (t : VolumeTable) (m : Known) (u : List ℕ) (sector count : ℕ) (o : IsOrderly s t m) (allowed : refusal (shape_in s t m) (Read u sector count) ≡ None) where
  -- the row of the disk
  own : (x : Option TreeRow) → tree_row m.rows (own_name m.rows u) ≡ x → (r : TreeRow) × (tree_row m.rows (own_name m.rows u) ≡ Some r)
  unfolding named
  own None e = absurd (own_there s t m u o (Read u sector count) refl allowed e)
  own (Some r) e = (r, e)

  abbrev row : (r : TreeRow) × (tree_row m.rows (own_name m.rows u) ≡ Some r)
  row = own (tree_row m.rows (own_name m.rows u)) refl

  at : In row.0 m.rows × (row_name row.0 ≡ own_name m.rows u)
  at = In-tree_row m.rows (own_name m.rows u) row.0 row.1

  shown : row.0.hidden ≡ false
  unfolding named
  shown = own_shown s t m u o (Read u sector count) refl allowed row.0 row.1

  uuid : image_uuid (row_name row.0) ≡ u
  uuid = ap image_uuid at.1 ∙ own_uuid m.rows u

  within : (0 < count) × (sector + count ≤ sector_count row.0.image)
  within = within_own s t m u row.0 o at.0 shown uuid sector count (read_range (shape_in s t m) u sector count allowed).0

  pub read_whole : (len : ℕ) → len ≡ 512 * count → IsWhole sector len (2 ^ 32)
  read_whole len long =
      let few : sector_count row.0.image ≤ 1044480 * 4096 = ∥∥₁_elim o.well_formed (hlevel props) (λ w. few_sectors s t m row.0 o w at.0) in
      let h = within in
      record { some = omega (arith, long, h.0); whole = omega (arith, long); within = omega (arith, long, few, h.1) }

  -- and its bytes
  pub read_bytes : (area : Held) (bytes : List ℕ) → IsReady s t area m → length bytes ≡ 512 * count
      → ((k : ℕ) → k < count → sector_of bytes k ≡ chain_reads (record { site = s; table = t; area = area }) m.rows (own_name m.rows u) (sector + k))
      → bytes ≡ read_from sector count (find (is_disk u) (disks (content_now s t area)))
  unfolding named
  read_bytes area bytes ready long same = ∥∥₁_elim o.well_formed (hlevel props) (λ w.
      let d = disk_own s t area m o ready (Read u sector count) u row.0 refl allowed w at.0 shown uuid in
      let h = row_now s t area m o ready.firm row.0 at.0 in
      let n = row_name row.0 in
      bytes_read (image_reads (content_now s t area) n) bytes sector count h.image.size (omega (arith, within.1, h.size)) long
      (λ k below. same k below ∙ ap (λ x. chain_reads (record { site = s; table = t; area = area }) m.rows x (sector + k)) (sym at.1) ∙ sym (chain_now s t area m o ready n (sector + k)))
      ∙ ap (bytes_at sector count) (sym (d.sectors ∙ read_of (content_now s t area) n h.image h.there))
      ∙ sym (ap (read_from sector count) (disk_found s t area m o ready u n d)))

pub taken_all : (n : ℕ) (xs ys : List ℕ) → length xs ≡ n → take n (xs ++ ys) ≡ xs
taken_all n xs ys long = take-append-le n xs ys (omega (arith, long)) ∙ take_all n xs (omega (arith, long))

-- the machine's step of it
pub read_still : (σ : State) (u : List ℕ) (sector count : ℕ) → refusal σ.shape (Read u sector count) ≡ None → σ.shape.sequence < 2 ^ 48 → (step σ (Read u sector count)).after ≡ σ
unfolding disks_next shape_after own_commits is_given_up gives_up
read_still σ u sector count allowed few = whole_still σ (Read u sector count) allowed few refl refl refl refl

pub read_reply : (σ : State) (u : List ℕ) (sector count : ℕ) → refusal σ.shape (Read u sector count) ≡ None → (step σ (Read u sector count)).reply ≡ Bytes (read_from sector count (find (is_disk u) σ.disks))
unfolding accepted reply_to
read_reply σ u sector count allowed = ap (λ (o : Outcome). o.reply) (step_accepted σ (Read u sector count) allowed)
