-- How a reply is printed (this project's format). A reply is one line: its parts are separated by one space, and it
-- ends with a newline. Accepted lines begin with `ok`, refused ones with `no` and the refusal's name. Sizes are in
-- bytes, numbers are decimal, bytes are lower-case hexadecimal digits, and what changed is base64.
use Rattle.std.specs.Prelude.{ℕ, ◌/◌, ◌%◌, Bool, true, false, List, [], ◌∷◌, ◌++◌, map, length, codes, Option, Some, None}
use Rattle.std.specs.List.{join_with_byte}
use Rattle.std.specs.Fmt.{decimal}
use Rattle.uuid.specs.Text.{hex_digit, lower}
use Rattle.sm_base.specs.Names.{spelling, uuid_text}
use Rattle.sm_base.specs.declared.names.Name.{Name}
use Rattle.sm_base.specs.declared.operations.Op.{Op}
use Rattle.sm_base.specs.declared.operations.Op.TheVariants as op
use Rattle.sm_base.specs.declared.operations.Plan.{Plan}
use Rattle.sm_base.specs.declared.operations.Plan.TheVariants as plan
use Rattle.sm_base.specs.declared.refusals.Refusal.{Refusal}
use Rattle.sm_base.specs.declared.refusals.Refusal.TheVariants.{BadLine, ReservedName, UnknownDisk, NameTaken, InUse, NotAttached, ReadOnly, RawDisk, Tracked, NotTracked, OutOfRange, BadSize, Shrink, ChainTooLong, TooMany, SequenceSpent, NoSpace, NoMemory, Differencing, BadFile, Cut}
use Rattle.sm_machine.specs.Stats.{Stats}
use Rattle.sm_machine.specs.declared.replies.DiskRow.{DiskRow}
use Rattle.sm_machine.specs.declared.replies.StatRow.{StatRow}
use Rattle.sm_machine.specs.declared.replies.Reply.{Reply}
use Rattle.sm_machine.specs.declared.replies.Reply.TheVariants as reply

-- two hexadecimal digits for each byte
unfoldable pub hex_text : List ℕ → List ℕ
hex_text [] = []
hex_text (byte ∷ bytes) = hex_digit lower (byte / 16) ∷ hex_digit lower (byte % 16) ∷ hex_text bytes

-- parts separated by commas (2c hex)
abbrev pub by_commas : List (List ℕ) → List ℕ
by_commas = join_with_byte 44

-- parts separated by spaces (20 hex)
abbrev pub by_spaces : List (List ℕ) → List ℕ
by_spaces = join_with_byte 32

-- `-` where there is none
abbrev pub dash : List ℕ
dash = codes "-"

-- a UUID's text, or `-` where there is none
abbrev pub uuid_or_dash : Option (List ℕ) → List ℕ
uuid_or_dash None = dash
uuid_or_dash (Some u) = uuid_text u

-- a name's spelling, or `-` where there is none
abbrev pub name_or_dash : Option Name → List ℕ
name_or_dash None = dash
name_or_dash (Some n) = spelling n

-- `ro` for a snapshot
abbrev pub access : Bool → List ℕ
access true = codes "ro"
access false = codes "rw"

-- `h` for a hidden image, `v` for a visible one
abbrev pub visibility : Bool → List ℕ
visibility true = codes "h"
visibility false = codes "v"

-- a disk of a list: UUID, size, access, origin, label
unfoldable pub disk_text : DiskRow → List ℕ
disk_text r = by_commas (uuid_text r.uuid ∷ decimal r.size ∷ access r.read_only ∷ uuid_or_dash r.origin ∷ r.label ∷ [])

-- an image: name, visibility, parent, size, blocks, extents, attached disks that read through it
unfoldable pub image_text : StatRow → List ℕ
image_text r = by_commas (spelling r.name ∷ visibility r.hidden ∷ name_or_dash r.parent ∷ decimal r.size ∷ decimal r.blocks ∷ decimal r.extents ∷ decimal r.refs ∷ [])

-- the running operation
unfoldable pub op_text : Op → List ℕ
op_text op.Idle = codes "none"
op_text (op.Copy child parent cursor) = by_commas (codes "copy" ∷ spelling child ∷ spelling parent ∷ decimal cursor ∷ [])
op_text (op.Relink child parent) = by_commas (codes "relink" ∷ spelling child ∷ spelling parent ∷ [])
op_text (op.Leaf leaf parent cursor) = by_commas (codes "leaf" ∷ spelling leaf ∷ spelling parent ∷ decimal cursor ∷ [])
op_text (op.Live leaf parent cursor dirty) = by_commas (codes "live" ∷ spelling leaf ∷ spelling parent ∷ decimal cursor ∷ decimal dirty ∷ [])

-- the child or the leaf of the running operation
abbrev pub worked_on : Op → List (List ℕ)
worked_on op.Idle = []
worked_on (op.Copy child parent cursor) = spelling child ∷ []
worked_on (op.Relink child parent) = spelling child ∷ []
worked_on (op.Leaf leaf parent cursor) = spelling leaf ∷ []
worked_on (op.Live leaf parent cursor dirty) = spelling leaf ∷ []

-- a step of the collector, taken while this operation ran
unfoldable pub plan_parts : Plan → Op → List (List ℕ)
plan_parts plan.Abandon o = codes "abandon" ∷ worked_on o
plan_parts (plan.Copy block) o = codes "copy" ∷ (worked_on o ++ decimal block ∷ [])
plan_parts plan.Turn o = codes "turn" ∷ worked_on o
plan_parts (plan.RelinkOne child) o = codes "relink" ∷ spelling child ∷ []
plan_parts plan.Finish o = codes "finish" ∷ worked_on o
plan_parts plan.Swap o = codes "swap" ∷ worked_on o
plan_parts (plan.Remove name) o = codes "remove" ∷ spelling name ∷ []
plan_parts (plan.Deflate name to) o = codes "deflate" ∷ spelling name ∷ []
plan_parts (plan.Begin child parent to) o = codes "begin" ∷ spelling child ∷ []
plan_parts (plan.Leaf leaf parent to) o = codes "leaf" ∷ spelling leaf ∷ []
plan_parts (plan.Live leaf parent to) o = codes "live" ∷ spelling leaf ∷ []
plan_parts (plan.Blocked need free) o = codes "blocked" ∷ codes "need" ∷ decimal need ∷ codes "free" ∷ decimal free ∷ []
plan_parts plan.Idle o = codes "idle" ∷ []

-- a refusal's name and its numbers
unfoldable pub refusal_parts : Refusal → List (List ℕ)
refusal_parts BadLine = codes "BadLine" ∷ []
refusal_parts ReservedName = codes "ReservedName" ∷ []
refusal_parts UnknownDisk = codes "UnknownDisk" ∷ []
refusal_parts NameTaken = codes "NameTaken" ∷ []
refusal_parts InUse = codes "InUse" ∷ []
refusal_parts NotAttached = codes "NotAttached" ∷ []
refusal_parts ReadOnly = codes "ReadOnly" ∷ []
refusal_parts RawDisk = codes "RawDisk" ∷ []
refusal_parts Tracked = codes "Tracked" ∷ []
refusal_parts NotTracked = codes "NotTracked" ∷ []
refusal_parts OutOfRange = codes "OutOfRange" ∷ []
refusal_parts BadSize = codes "BadSize" ∷ []
refusal_parts Shrink = codes "Shrink" ∷ []
refusal_parts (ChainTooLong depth) = codes "ChainTooLong" ∷ codes "depth" ∷ decimal depth ∷ []
refusal_parts (TooMany have need) = codes "TooMany" ∷ codes "have" ∷ decimal have ∷ codes "need" ∷ decimal need ∷ []
refusal_parts SequenceSpent = codes "SequenceSpent" ∷ []
refusal_parts (NoSpace need free) = codes "NoSpace" ∷ codes "need" ∷ decimal need ∷ codes "free" ∷ decimal free ∷ []
refusal_parts NoMemory = codes "NoMemory" ∷ []
refusal_parts Differencing = codes "Differencing" ∷ []
refusal_parts (BadFile sector) = codes "BadFile" ∷ codes "sector" ∷ decimal sector ∷ []
refusal_parts (Cut sector) = codes "Cut" ∷ codes "sector" ∷ decimal sector ∷ []

-- the images and the room
unfoldable pub stat_parts : Stats → List (List ℕ)
stat_parts s = codes "seq" ∷ decimal s.seq ∷ codes "free" ∷ decimal s.free ∷ codes "op" ∷ op_text s.op ∷ codes "images" ∷ decimal (length s.rows) ∷ map image_text s.rows

-- the parts of a reply
unfoldable pub reply_parts : Reply → List (List ℕ)
reply_parts reply.Done = codes "ok" ∷ []
reply_parts (reply.Size bytes) = codes "ok" ∷ decimal bytes ∷ []
reply_parts (reply.Bytes bytes) = codes "ok" ∷ hex_text bytes ∷ []
reply_parts (reply.Changed text) = codes "ok" ∷ text ∷ []
reply_parts (reply.List rows) = codes "ok" ∷ decimal (length rows) ∷ map disk_text rows
reply_parts (reply.Stat stats) = codes "ok" ∷ stat_parts stats
reply_parts (reply.Gc step o) = codes "ok" ∷ codes "gc" ∷ plan_parts step o
reply_parts (reply.No refusal) = codes "no" ∷ refusal_parts refusal

-- the line that a reply is printed as, with its newline
unfoldable pub printed : Reply → List ℕ
printed r = by_spaces (reply_parts r) ++ 10 ∷ []
