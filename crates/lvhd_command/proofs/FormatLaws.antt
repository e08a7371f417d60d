-- What formatting did, from what its parts did.
use Rattle.std.proofs.Common.{◌≡◌, ◌≢◌, ℕ, ◌+◌, ◌<◌, List, Option, Some, Result, Ok, Err, is_err, cond, arith, sym, ap, subst, ◌∙◌}
use Rattle.std.specs.Prelude.{⊤}
use Rattle.sm_base.specs.Numbers.{IsGeometry}
use Rattle.sm_base.specs.declared.faults.Failed.{Failed}
use Rattle.sm_base.specs.declared.sizes.Geometry.{Geometry}
use Rattle.sm_disk.specs.Held.{Held, Keeps}
use Rattle.sm_disk.specs.Streams.{Adds}
use Rattle.sm_script.specs.Pieces.{Writes}
use Rattle.vg_layout.specs.Places.{new_extents, record_extents}
use Rattle.vg_store.specs.Formats.{beside_new, least_size}
use Rattle.lvhd_command.specs.declared.statuses.Status.{Status}
use Rattle.lvhd_command.specs.declared.statuses.Status.TheVariants.{Done, Refused, Sink}
use Rattle.lvhd_command.specs.declared.words.Form.TheVariants.{Format}
use Rattle.lvhd_command.specs.declared.words.Request.{Request}
use Rattle.lvhd_command.specs.Formatting.{Sides, Asked, asked, HasSizes, HasFormatted, CannotFormat, KeepsBesideNew, IsFormattedLine, IsRefusalLine, IsCutLine, FormatDid}
use Rattle.lvhd_command.specs.Formatting.CannotFormat.{bad_sizes, too_small}
use Rattle.lvhd_command.specs.Formatting.IsRefusalLine.{by_size}
use Rattle.lvhd_command.specs.Formatting.IsCutLine.{of_refusal, of_success}
use Rattle.lvhd_command.specs.Texts.{line_of, too_small_words, formatted_words}

-- a line was to be printed
said_line : (s : Sides) (a : Asked) (line : List ℕ) (p : Result ⊤ Failed) (status to : Status) → Writes line s.had s.got s.sink_faults s.sink_faults_now p
    → to ≡ cond (is_err p) Sink status → (Adds s.had line s.got → FormatDid s a status) → IsCutLine s a line → FormatDid s a to
said_line s a line (Ok v) status to w is done cut = subst (λ (x : Status). FormatDid s a x) (sym is) (done w.adds)
said_line s a line (Err e) status to w is done cut = subst (λ (x : Status). FormatDid s a x) (sym is) (w.cause.0, (line, cut, w.front))

pub said_refusal : (s : Sides) (a : Asked) (line : List ℕ) (p : Result ⊤ Failed) (to : Status) → Writes line s.had s.got s.sink_faults s.sink_faults_now p
    → to ≡ cond (is_err p) Sink Refused → s.Unchanged → IsRefusalLine s a line → FormatDid s a to
said_refusal s a line p to w said same is = said_line s a line p Refused to w said (λ adds. (same, (line, is, adds))) (of_refusal same is)

pub said_too_small : (s : Sides) (a : Asked) (g : Geometry) (sectors : ℕ) (p : Result ⊤ Failed) (to : Status) → Writes (line_of (too_small_words sectors)) s.had s.got s.sink_faults s.sink_faults_now p
    → to ≡ cond (is_err p) Sink Refused → s.Unchanged → HasSizes a g → s.size < least_size g.extent → sectors ≡ least_size g.extent → FormatDid s a to
said_too_small s a g sectors p to w said same sizes small is =
    said_refusal s a (line_of (too_small_words sectors)) p to w said same
    (subst (λ n. IsRefusalLine s a (line_of (too_small_words n))) (sym is) (by_size g sizes small))

pub said_formatted : (s : Sides) (a : Asked) (g : Geometry) (extents free : ℕ) (p : Result ⊤ Failed) (to : Status)
    → Writes (line_of (formatted_words extents free)) s.had s.got s.sink_faults s.sink_faults_now p → to ≡ cond (is_err p) Sink Done
    → HasFormatted s a g → extents ≡ new_extents s.size g.extent → free + record_extents g.extent ≡ extents → FormatDid s a to
said_formatted s a g extents free p to w said has is rest =
    let line : IsFormattedLine s g (line_of (formatted_words extents free)) = record { free = free; rest = rest ∙ is; text = ap (λ n. line_of (formatted_words n free)) is } in
    said_line s a (line_of (formatted_words extents free)) p Done to w said (λ adds. (g, has, (line_of (formatted_words extents free), line, adds))) (of_success g has line)

-- ---- no repository can be made

-- sizes of which a geometry was made, of a device that is large enough, are no hindrance
pub can_format : (size : ℕ) (a : Asked) (g : Geometry) → HasSizes a g → (size < least_size g.extent → ⊥) → CannotFormat size a → ⊥
can_format size a g sizes large (bad_sizes bad) =
    bad g.extent g.block sizes.extent sizes.block (subst (λ n. IsGeometry g.extent g.block n) sizes.entries g.in_range)
can_format size a g sizes large (too_small h other small) =
    let same : h.extent ≡ g.extent = omega (arith, sizes.extent, other.extent) in
    large (subst (λ n. size < least_size n) same small)

pub cannot_as : (size : ℕ) (a b : Request) → a ≡ b → CannotFormat size (asked b) → CannotFormat size (asked a)
cannot_as size a b same cannot = subst (λ (r : Request). CannotFormat size (asked r)) (sym same) cannot

-- ---- what is no part of the repository, and the sink's count of faults

-- the sizes are those of one geometry alone
pub beside_sizes : (size : ℕ) (a : Asked) (g : Geometry) (old new : Held) → HasSizes a g
    → Keeps (beside_new size g.extent old) (beside_new size g.extent new) → KeepsBesideNew size a old new
beside_sizes size a g old new sizes k = λ h other.
    let same : g.extent ≡ h.extent = omega (arith, sizes.extent, other.extent) in
    subst (λ n. Keeps (beside_new size n old) (beside_new size n new)) same k

-- a line that went out failed no call
pub said_calm : (line : List ℕ) (had got : Option (List ℕ)) (before now : ℕ) (p : Result ⊤ Failed) (status to : Status) → Writes line had got before now p
    → to ≡ cond (is_err p) Sink status → to ≢ Sink → now ≡ before
said_calm line had got before now (Ok v) status to w is other = w.cause.1
said_calm line had got before now (Err e) status to w is other = absurd (other is)

-- ---- the words ask for one thing alone

pub same_request : (a b : Request) → Some (Format a) ≡ Some (Format b) → a ≡ b
same_request a b e = (let x = e in cc)

pub beside_as : (size : ℕ) (a b : Request) (old new : Held) → a ≡ b → KeepsBesideNew size (asked a) old new → KeepsBesideNew size (asked b) old new
beside_as size a b old new same k = subst (λ (r : Request). KeepsBesideNew size (asked r) old new) same k

pub did_as : (s : Sides) (a b : Request) (status : Status) → a ≡ b → FormatDid s (asked a) status → FormatDid s (asked b) status
did_as s a b status same did = subst (λ (r : Request). FormatDid s (asked r) status) same did
