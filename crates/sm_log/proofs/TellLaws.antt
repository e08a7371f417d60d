-- What logs tell stays true, whatever a command or a stop in the middle of one leaves of disks and logs.
use Rattle.std.proofs.Common.{◌≡◌, ℕ, ◌+◌, ◌-◌, ◌/◌, ◌<◌, ◌≤◌, ◌⊎◌, true, List, length, sym, ap, ◌∙◌, inl, inr, subst, arith}
use Rattle.common_laws.specs.Lists.{In}
use Rattle.common_laws.proofs.Lists.{numbers-In}
use Rattle.sm_log.specs.Logs.{Log, bit, piece_sectors, pieces_touched, touched, twin_log}
use Rattle.sm_log.specs.Told.{Showing, Follows, Tells, HasMore, HaveMore, IsWithin}
use Rattle.sm_log.proofs.BitLaws.{marked-sets}

-- disks that have a log show nothing new, and no log is new: a line that touches no tracked disk, a log that goes, a collector's step,
-- a fork whose twin has no log yet
pub tells_elsewhere : (old new : Showing) (ls ms : List Log) → Tells old ls
    → ((l : Log) → In l ms → In l ls)
    → ((l : Log) (k : ℕ) (x : List ℕ) → In l ms → new l.disk k x → old l.disk k x)
    → Tells new ms
tells_elsewhere old new ls ms h fewer less a b k x y in_a in_b f sx sy ne =
    h a b k x y (fewer a in_a) (fewer b in_b) f (less a k x in_a sx) (less b k y in_b sy) ne

-- bits are set before anything is written
pub tells_more : (shows : Showing) (ls ms : List Log) → Tells shows ls → HaveMore ls ms → Tells shows ms
tells_more shows ls ms h more a b k x y in_a in_b f sx sy ne =
    let p : (l : Log) × In l ls × HasMore l a = more a in_a in
    let q : (l : Log) × In l ls × HasMore l b = more b in_b in
    let follows : Follows p.0 q.0 = record { tagged = λ e. f.tagged (p.2.tag ∙ e); since = sym q.2.since ∙ f.since ∙ p.2.tag } in
    q.2.bits (k / piece_sectors) (h p.0 q.0 k x y p.1 q.1 follows
    (subst (λ (u : List ℕ). shows u k x) p.2.disk sx) (subst (λ (u : List ℕ). shows u k y) q.2.disk sy) ne)

-- what is written lies in pieces whose bits are set, on a disk whose log no other names
pub tells_written : (old new : Showing) (ls : List Log) (u : List ℕ) (W : ℕ → Type 0) → Tells old ls
    → ((v : List ℕ) (k : ℕ) (x : List ℕ) → new v k x → old v k x ⊎ ((v ≡ u) × W k))
    → ((l : Log) → In l ls → l.disk ≡ u → l.tag ≡ 0)
    → ((l : Log) (k : ℕ) → In l ls → l.disk ≡ u → W k → bit l.bits (k / piece_sectors) ≡ true)
    → Tells new ls
tells_written old new ls u W h shown untagged set a b k x y in_a in_b f sx sy ne =
    elim (shown b.disk k y sy) [
      | inr w ↦ set b k in_b w.0 w.1
      | inl oy ↦ elim (shown a.disk k x sx) [
        | inr w ↦ absurd (f.tagged (untagged a in_a w.0))
        | inl ox ↦ h a b k x y in_a in_b f ox oy ne
      ]
    ]

-- each of these logs is one of those, or the new one: one that begins with no tag of another, and with none of its own
pub tells_begun : (shows : Showing) (ls ms : List Log) (n : Log) → Tells shows ls → n.tag ≡ 0 → n.since ≡ 0
    → ((m : Log) → In m ms → (m ≡ n) ⊎ In m ls) → Tells shows ms
tells_begun shows ls ms n h untagged unbegun each a b k x y in_a in_b f sx sy ne =
    elim (each a in_a) [
      | inl e ↦ absurd (f.tagged (ap (λ (l : Log). l.tag) e ∙ untagged))
      | inr old_a ↦ elim (each b in_b) [
        | inl e ↦ absurd (f.tagged (sym f.since ∙ ap (λ (l : Log). l.since) e ∙ unbegun))
        | inr old_b ↦ h a b k x y old_a old_b f sx sy ne
      ]
    ]

-- a snapshot's log comes beside that of the disk: it has its bits and its since, and the twin shows what the disk shows
pub tells_twin : (shows : Showing) (ls ms : List Log) (l : Log) (twin : List ℕ) (tag : ℕ) → Tells shows ls → In l ls
    → ((m : Log) → In m ls → m.since < tag)
    → ((k : ℕ) (x : List ℕ) → shows twin k x → shows l.disk k x)
    → ((m : Log) → In m ms → (m ≡ twin_log twin tag l) ⊎ In m ls) → Tells shows ms
tells_twin shows ls ms l twin tag h in_l below alike each a b k x y in_a in_b f sx sy ne =
    elim (each a in_a) [
      | inl e ↦ absurd (elim (each b in_b) [
        | inl q ↦ let t : a.tag ≡ tag = ap (λ (m : Log). m.tag) e in let s : b.since ≡ l.since = ap (λ (m : Log). m.since) q in
            let w : l.since < tag = below l in_l in let g : b.since ≡ a.tag = f.since in omega arith
        | inr old_b ↦ let t : a.tag ≡ tag = ap (λ (m : Log). m.tag) e in let w : b.since < tag = below b old_b in let g : b.since ≡ a.tag = f.since in omega arith
      ])
      | inr old_a ↦ elim (each b in_b) [
        | inl q ↦ ap (λ (m : Log). bit m.bits (k / piece_sectors)) q ∙ h a l k x y old_a in_l
            (record { tagged = f.tagged; since = sym (ap (λ (m : Log). m.since) q) ∙ f.since }) sx
            (alike k y (subst (λ (u : List ℕ). shows u k y) (ap (λ (m : Log). m.disk) q) sy)) ne
        | inr old_b ↦ h a b k x y old_a old_b f sx sy ne
      ]
    ]

-- the disk's log begins anew, whatever its bits are by then: it follows the snapshot's alone, and the two disks show one thing
pub tells_anew : (shows : Showing) (ls ms : List Log) (l : Log) (tag : ℕ) (twin : List ℕ) → Tells shows ls
    → ((m : Log) → In m ls → m.tag ≡ tag → m.disk ≡ twin)
    → ((k : ℕ) (x y : List ℕ) → shows twin k x → shows l.disk k y → x ≡ y)
    → ((m : Log) → In m ms → In m ls ⊎ ((m.disk ≡ l.disk) × (m.tag ≡ l.tag) × (m.since ≡ tag)))
    → In l ls → Tells shows ms
tells_anew shows ls ms l tag twin h tagged same each in_l a b k x y in_a in_b f sx sy ne =
    let of_disk : (u v : List ℕ) (z : List ℕ) → u ≡ v → shows u k z → shows v k z = λ u v z e s. subst (λ (w : List ℕ). shows w k z) e s in
    elim (each b in_b) [
      | inl old_b ↦ elim (each a in_a) [
        | inl old_a ↦ h a b k x y old_a old_b f sx sy ne
        | inr n ↦ h l b k x y in_l old_b (record { tagged = λ e. f.tagged (n.1 ∙ e); since = f.since ∙ n.1 }) (of_disk a.disk l.disk x n.0 sx) sy ne
      ]
      | inr m ↦ elim (each a in_a) [
        | inl old_a ↦ absurd (ne (same k x y (of_disk a.disk twin x (tagged a old_a (sym f.since ∙ m.2)) sx) (of_disk b.disk l.disk y m.0 sy)))
        | inr n ↦ absurd (ne (same k x y (of_disk a.disk twin x (n.0 ∙ tagged l in_l (sym n.1 ∙ sym f.since ∙ m.2)) sx) (of_disk b.disk l.disk y m.0 sy)))
      ]
    ]

-- a write of so many sectors, once its bits are set
pub touched_is_set : (l : Log) (sector count k : ℕ) → In (k / piece_sectors) (pieces_touched sector count)
    → k / piece_sectors < length l.bits → bit ((touched sector count l).bits) (k / piece_sectors) ≡ true
touched_is_set l sector count k in_pieces within = marked-sets (pieces_touched sector count) l.bits (k / piece_sectors) in_pieces within

-- the piece of each sector that is written is touched
pub within_touched : (sector count k : ℕ) → IsWithin sector count k → In (k / piece_sectors) (pieces_touched sector count)
within_touched sector count k w =
    let first : sector / 128 ≤ k / 128 = omega (arith, w.from, w.to) in
    let last : k / 128 ≤ (sector + count - 1) / 128 = omega (arith, w.from, w.to) in
    numbers-In (sector / 128) ((sector + count - 1) / 128 + 1 - sector / 128) (k / 128) first (omega (arith, first, last))
