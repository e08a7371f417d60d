-- What a cache keeps of a store: the bytes of single sectors of volumes, the entry that was used last first.
use Rattle.std.specs.Prelude.{◌≡◌, ℕ, ◌+◌, ◌-◌, ◌/◌, Bool, not, ◌&&◌, nat_le, nat_lt, List, [], ◌∷◌, Some, None, take}
use Rattle.std.specs.List.{filter}
use Rattle.std.specs.Map.{lookup}
use Rattle.common_laws.specs.Lists.{In}
use Rattle.lru.specs.LruCache.{LruCache, lru_cache}
use Rattle.sm_base.specs.declared.names.Name.{Name}
use Rattle.sm_disk.specs.Held.{Held, reads}
use Rattle.vg_meta.specs.Tables.{VolumeTable, name_eq}
use Rattle.vg_volumes.specs.Sites.{Site, volume_of}
use Rattle.sm_cache.specs.declared.keys.Spot.{Spot}
use Rattle.sm_cache.specs.contracts.keys.SpotPartialEq.TheImpl as spot

-- entries, each with the sector that it is of and this sector's bytes
abbrev pub Entries : Type 0
Entries = List (Spot × List ℕ)

-- what a cache keeps: its entries, the one that was used last first, and how many there may be
abbrev pub Kept : Type 0
Kept = LruCache Spot (List ℕ)

-- whether two sectors are one, as `==` says
unfoldable pub same_spot : Spot → Spot → Bool
same_spot = spot.ghosts.eq

-- a sector of a volume, by the volume's name and the place in it
abbrev pub spot_of : Name → ℕ → Spot
spot_of volume at = record { volume = volume; at = at }

-- each entry has the bytes that a read of the store below gives
pub record AreTrue (s : Site) (t : VolumeTable) (area : Held) (es : Entries) : Type 0 where
  pub each : (k : Spot) (v : List ℕ) → In (k, v) es → reads (volume_of s t area k.volume) k.at ≡ v

-- whether a sector is one of so many sectors of a volume, from a place on
abbrev pub is_among : Name → ℕ → ℕ → Spot → Bool
is_among volume at many k = name_eq k.volume volume && (nat_le at k.at && nat_lt k.at (at + many))

-- the entries but those of so many sectors of a volume from a place on, in their order
abbrev pub others : Name → ℕ → ℕ → Entries → Entries
others volume at many es = filter (λ e. not (is_among volume at many e.0)) es

-- so many bytes are one sector of a volume, and its entry has these bytes
pub record HasEntry (kept : Kept) (volume : Name) (at len : ℕ) (bytes : List ℕ) : Type 0 where
  pub one : len ≡ 512
  pub there : lookup (same_spot (spot_of volume at)) kept.entries ≡ Some bytes

-- so many bytes are one sector of a volume, and it has no entry
pub record HasNoEntry (kept : Kept) (volume : Name) (at len : ℕ) : Type 0 where
  pub one : len ≡ 512
  pub none : lookup (same_spot (spot_of volume at)) kept.entries ≡ None

-- the entry of a sector has these bytes and comes first, the others behind it as they stood
abbrev pub in_front : Name → ℕ → List ℕ → Kept → Kept
in_front volume at bytes kept = lru_cache ((spot_of volume at, bytes) ∷ others volume at 1 kept.entries) kept.cap

-- an entry more comes first, the others behind it as they stood, and of a full cache the last is gone
abbrev pub with_entry : Name → ℕ → List ℕ → Kept → Kept
with_entry volume at bytes kept = lru_cache ((spot_of volume at, bytes) ∷ take (kept.cap - 1) kept.entries) kept.cap

-- the sectors of so many bytes of a volume, from a place on, have no entries, and the others stand as they stood
abbrev pub dropped : Name → ℕ → ℕ → Kept → Kept
dropped volume at len kept = lru_cache (others volume at (len / 512) kept.entries) kept.cap

-- nothing is kept
abbrev pub emptied : Kept → Kept
emptied kept = lru_cache [] kept.cap
