-- Why a part of a text was not read.
use Rattle.vg_meta.specs.declared.decoding.Unread.{Unread}
use Rattle.vg_meta.specs.declared.decoding.Unread.TheVariants.{Damaged, NoMemory}

-- where it is damaged, this holds
abbrev pub IsUnread : Unread → Type 0 → Type 0
IsUnread Damaged P = P
IsUnread NoMemory P = Unit {0}
