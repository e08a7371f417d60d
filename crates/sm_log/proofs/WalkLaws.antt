-- Where the walk leads from one snapshot's log back to another's, each piece in which the two disks differ is in what it gives.
use Rattle.std.proofs.Common.{◌≡◌, ◌≢◌, ℕ, zero, suc, ◌/◌, ◌==◌, Bool, true, false, List, [], ◌∷◌, length, replicate, Option, Some, None, refl, sym, ap, ◌∙◌, inl, inr, subst, if◌then◌else◌, ◌||◌, arith}
use Rattle.std.specs.List.{find}
use Rattle.std.specs.Str.{bytes_eq}
use Rattle.std.proofs.lemmas.Bool.{eqb-true, eq-eqb, true≢false}
use Rattle.std.proofs.lemmas.List.{length-replicate}
use Rattle.common_laws.specs.Lists.{In, ◌>>=◌}
use Rattle.common_laws.proofs.Bytes.{bytes_eq-same, same_or_not}
use Rattle.common_laws.proofs.Lists.{find-some}
use Rattle.sm_log.specs.Logs.{Log, bit, piece_sectors, before, walk, walked, united, changed, log_of, is_log_of}
use Rattle.sm_log.specs.Told.{Showing, Follows, Tells, ShowsAlong}
use Rattle.sm_log.proofs.BitLaws.{bit-either, length-either}

-- the log before is one of the logs, and this one follows it
before_parts : (l m : Log) (logs : List Log) → before l logs ≡ Some m → In m logs × Follows m l
before_parts l m logs h = by (l.since == 0) refl h
  where
    by : (b : Bool) → (l.since == 0) ≡ b → (if b then None else find (λ k. k.tag == l.since) logs) ≡ Some m → In m logs × Follows m l
    by true e q = let z : None ≡ Some m = q in cc
    by false e q =
        let p : In m logs × ((m.tag == l.since) ≡ true) = find-some (λ k. k.tag == l.since) logs m q in
        let same : m.tag ≡ l.since = eqb-true m.tag l.since p.1 in
        let begun : l.since ≢ 0 = λ z. let t : (l.since == 0) ≡ true = eq-eqb l.since 0 z in cc in
        (p.0, record { tagged = λ z. begun (sym same ∙ z); since = sym same })

no_walk : (most : ℕ) (u : List ℕ) (logs : List Log) → walk most u logs None ≡ None
unfolding walk
no_walk zero u logs = refl
no_walk (suc most) u logs = refl

one_step : (l : Log) (ls : List Log) (r : Option (List Log)) → (r >>= λ rest. Some (l ∷ rest)) ≡ Some ls → (rest : List Log) × (r ≡ Some rest) × (ls ≡ l ∷ rest)
one_step l ls None e = let z : None ≡ Some ls = e in cc
one_step l ls (Some rest) e = let z : Some (l ∷ rest) ≡ Some ls = e in let s : l ∷ rest ≡ ls = cc in (rest, refl, sym s)

-- a log that is not the end of a walk is on it
head_in : (most : ℕ) (u : List ℕ) (logs : List Log) (m : Log) (rest : List Log) → walk most u logs (Some m) ≡ Some rest → bytes_eq m.disk u ≡ false → In m rest
unfolding walk
head_in zero u logs m rest e apart = let z : None ≡ Some rest = e in cc
head_in (suc most) u logs m rest e apart = by (bytes_eq m.disk u) apart e
  where
    by : (b : Bool) → b ≡ false → (if b then Some [] else (walk most u logs (before m logs) >>= λ ls. Some (m ∷ ls))) ≡ Some rest → In m rest
    by true f q = absurd (true≢false f)
    by false f q =
        let p = one_step m rest (walk most u logs (before m logs)) q in
        subst (λ (a : List Log). In m a) (sym p.2) (inl refl)

or_left : (a b : Bool) → a ≡ true → (a || b) ≡ true
or_left true b h = refl
or_left false b h = let e : false ≡ true = h in cc

or_right : (a b : Bool) → b ≡ true → (a || b) ≡ true
or_right true b h = refl
or_right false b h = h

in_head : (blank : List Bool) (n : Log) (ls : List Log) (k : ℕ) → bit n.bits k ≡ true → bit (united blank (n ∷ ls)) k ≡ true
unfolding united
in_head blank n ls k e = bit-either n.bits (united blank ls) k ∙ or_left _ _ e

in_rest : (blank : List Bool) (n : Log) (ls : List Log) (k : ℕ) → bit (united blank ls) k ≡ true → bit (united blank (n ∷ ls)) k ≡ true
unfolding united
in_rest blank n ls k e = bit-either n.bits (united blank ls) k ∙ or_right (bit n.bits k) _ e

-- within so many logs, from a log that is one of them, where each disk on the way shows something
abbrev Covers : Showing → List Log → List ℕ → ℕ → List Bool → ℕ → Type 0
Covers shows logs u k blank most = (n : Log) (ls : List Log) → In n logs → walk most u logs (Some n) ≡ Some ls → ((l : Log) → In l ls → (z : List ℕ) × shows l.disk k z)
    → (x y : List ℕ) → shows u k x → shows n.disk k y → x ≢ y → bit (united blank ls) (k / piece_sectors) ≡ true

-- the earlier disk shows one thing
abbrev IsOne : Showing → List ℕ → ℕ → Type 0
IsOne shows u k = (x y : List ℕ) → shows u k x → shows u k y → x ≡ y

one_more : (shows : Showing) (logs : List Log) (u : List ℕ) (k : ℕ) (blank : List Bool) → Tells shows logs → IsOne shows u k
    → (most : ℕ) → Covers shows logs u k blank most → Covers shows logs u k blank (suc most)
unfolding walk
one_more shows logs u k blank h one most ih n ls in_n e some x y sx sy ne = by_end (bytes_eq n.disk u) refl e
  where
    -- what the disk of the log before shows: the earlier disk is that, or it is on the way
    shown : (m : Log) (rest : List Log) → walk most u logs (Some m) ≡ Some rest → ls ≡ n ∷ rest → (b : Bool) → bytes_eq m.disk u ≡ b → (z : List ℕ) × shows m.disk k z
    shown m rest w is true q = (x, subst (λ (v : List ℕ). shows v k x) (sym (bytes_eq-same m.disk u q)) sx)
    shown m rest w is false q = some m (subst (λ (a : List Log). In m a) (sym is) (inr (head_in most u logs m rest w q)))

    further : (m : Log) (rest : List Log) → In m logs × Follows m n → walk most u logs (Some m) ≡ Some rest → ls ≡ n ∷ rest
        → bit (united blank ls) (k / piece_sectors) ≡ true
    further m rest p w is =
        let z : (z : List ℕ) × shows m.disk k z = shown m rest w is (bytes_eq m.disk u) refl in
        ap (λ (a : List Log). bit (united blank a) (k / piece_sectors)) is
        ∙ elim (same_or_not z.0 y) [
          | inr apart ↦ in_head blank n rest (k / piece_sectors) (h m n k z.0 y p.0 in_n p.1 z.1 sy apart)
          | inl same ↦ in_rest blank n rest (k / piece_sectors) (ih m rest p.0 w (λ l i. some l (subst (λ (a : List Log). In l a) (sym is) (inr i))) x z.0 sx z.1 (λ q. ne (q ∙ same)))
        ]

    by_rest : (m : Log) → before n logs ≡ Some m → (r : Option (List Log)) → walk most u logs (Some m) ≡ r
        → (r >>= λ rest. Some (n ∷ rest)) ≡ Some ls → bit (united blank ls) (k / piece_sectors) ≡ true
    by_rest m q None a b = let z : None ≡ Some ls = b in cc
    by_rest m q (Some rest) a b = let z : Some (n ∷ rest) ≡ Some ls = b in further m rest (before_parts n m logs q) a (let s : n ∷ rest ≡ ls = cc in sym s)

    by_before : (o : Option Log) → before n logs ≡ o → (walk most u logs o >>= λ rest. Some (n ∷ rest)) ≡ Some ls
        → bit (united blank ls) (k / piece_sectors) ≡ true
    by_before None q w =
        let t : (None >>= λ (rest : List Log). Some (n ∷ rest)) ≡ Some ls = ap (λ (o : Option (List Log)). o >>= λ rest. Some (n ∷ rest)) (sym (no_walk most u logs)) ∙ w in
        let z : None ≡ Some ls = t in cc
    by_before (Some m) q w = by_rest m q (walk most u logs (Some m)) refl w

    by_end : (b : Bool) → bytes_eq n.disk u ≡ b → (if b then Some [] else (walk most u logs (before n logs) >>= λ rest. Some (n ∷ rest))) ≡ Some ls
        → bit (united blank ls) (k / piece_sectors) ≡ true
    by_end true q w = absurd (ne (one x y sx (subst (λ (v : List ℕ). shows v k y) (bytes_eq-same n.disk u q) sy)))
    by_end false q w = by_before (before n logs) refl w

walk_covers : (shows : Showing) (logs : List Log) (u : List ℕ) (k : ℕ) (blank : List Bool) → Tells shows logs → IsOne shows u k
    → (most : ℕ) → Covers shows logs u k blank most
unfolding walk
walk_covers shows logs u k blank h one zero = λ n ls in_n e some x y sx sy ne. let z : None ≡ Some ls = e in cc
walk_covers shows logs u k blank h one (suc most) = one_more shows logs u k blank h one most (walk_covers shows logs u k blank h one most)

-- The two disks differ in a sector: what is answered names its piece.
pub changed_covers : (shows : Showing) (logs : List Log) (u n : List ℕ) (pieces k : ℕ) (bits : List Bool) → Tells shows logs → ShowsAlong shows logs u n k
    → changed pieces u n logs ≡ Some bits → u ≢ n
    → (x y : List ℕ) → shows u k x → shows n k y → x ≢ y → bit bits (k / piece_sectors) ≡ true
unfolding changed
changed_covers shows logs u n pieces k bits h one e apart x y sx sy ne = by_same (bytes_eq u n) refl e
  where
    blank : List Bool
    blank = replicate pieces false

    by_walk : (o : Option Log) → log_of n logs ≡ o → (r : Option (List Log)) → walk (length logs) u logs o ≡ r
        → (r >>= λ ls. Some (united blank ls)) ≡ Some bits → bit bits (k / piece_sectors) ≡ true
    by_walk o q None w b = let z : None ≡ Some bits = b in cc
    by_walk None q (Some ls) w b = let z : None ≡ Some ls = sym (no_walk (length logs) u logs) ∙ w in cc
    by_walk (Some l) q (Some ls) w b =
        let p : In l logs × (is_log_of n l ≡ true) = find-some (is_log_of n) logs l q in
        let z : Some (united blank ls) ≡ Some bits = b in
        let s : united blank ls ≡ bits = cc in
        ap (λ (c : List Bool). bit c (k / piece_sectors)) (sym s)
        ∙ walk_covers shows logs u k blank h one.one (length logs) l ls p.0 w (λ m i. one.some ls m (ap (walk (length logs) u logs) q ∙ w) i) x y sx
        (subst (λ (v : List ℕ). shows v k y) (sym (bytes_eq-same l.disk n p.1)) sy) ne

    by_same : (b : Bool) → bytes_eq u n ≡ b → (if b then Some (replicate pieces false) else (walked u n logs >>= λ ls. Some (united (replicate pieces false) ls))) ≡ Some bits
        → bit bits (k / piece_sectors) ≡ true
    by_same true q w = absurd (apart (bytes_eq-same u n q))
    by_same false q w = by_walk (log_of n logs) refl (walk (length logs) u logs (log_of n logs)) refl w

-- ---- as many bits as there are pieces

-- the logs of a walk are some of all logs
walk_in : (most : ℕ) (u : List ℕ) (logs : List Log) (o : Option Log) (ls : List Log) → ((l : Log) → o ≡ Some l → In l logs) → walk most u logs o ≡ Some ls
    → (x : Log) → In x ls → In x logs
unfolding walk
walk_in zero u logs o ls here e x i = let z : None ≡ Some ls = e in cc
walk_in (suc most) u logs None ls here e x i = let z : None ≡ Some ls = e in cc
walk_in (suc most) u logs (Some l) ls here e x i =
    by (bytes_eq l.disk u) e (λ rest w. walk_in most u logs (before l logs) rest (λ m q. (before_parts l m logs q).0) w x)
  where
    by : (b : Bool) → (if b then Some [] else (walk most u logs (before l logs) >>= λ rest. Some (l ∷ rest))) ≡ Some ls
        → ((rest : List Log) → walk most u logs (before l logs) ≡ Some rest → In x rest → In x logs) → In x logs
    by true q ih =
        let z : Some [] ≡ Some ls = q in
        let s : [] ≡ ls = cc in
        let none : In x [] = subst (λ (a : List Log). In x a) (sym s) i in absurd none
    by false q ih =
        let p = one_step l ls (walk most u logs (before l logs)) q in
        elim (subst (λ (a : List Log). In x a) p.2 i) [
          | inl same ↦ subst (λ (a : Log). In a logs) (sym same) (here l refl)
          | inr further ↦ ih p.0 p.1 further
        ]

united_long : (pieces : ℕ) (ls : List Log) → ((l : Log) → In l ls → length l.bits ≡ pieces) → length (united (replicate pieces false) ls) ≡ pieces
unfolding united
united_long pieces [] h = length-replicate {A = Bool} pieces false
united_long pieces (l ∷ ls) h =
    let rest : length (united (replicate pieces false) ls) ≡ pieces = united_long pieces ls (λ m i. h m (inr i)) in
    length-either l.bits (united (replicate pieces false) ls) (omega (arith, h l (inl refl), rest)) ∙ h l (inl refl)

-- what is answered has a bit for each piece
pub changed_long : (logs : List Log) (u n : List ℕ) (pieces : ℕ) (bits : List Bool) → ((l : Log) → In l logs → length l.bits ≡ pieces)
    → changed pieces u n logs ≡ Some bits → length bits ≡ pieces
unfolding changed
changed_long logs u n pieces bits each e = by (bytes_eq u n) e
  where
    walked_long : (r : Option (List Log)) → walked u n logs ≡ r → (r >>= λ ls. Some (united (replicate pieces false) ls)) ≡ Some bits → length bits ≡ pieces
    walked_long None w q = let z : None ≡ Some bits = q in cc
    walked_long (Some ls) w q =
        let z : Some (united (replicate pieces false) ls) ≡ Some bits = q in
        let s : united (replicate pieces false) ls ≡ bits = cc in
        ap (λ (x : List Bool). length x) (sym s)
        ∙ united_long pieces ls (λ l i. each l (walk_in (length logs) u logs (log_of n logs) ls (λ m p. (find-some (is_log_of n) logs m p).0) w l i))

    by : (b : Bool) → (if b then Some (replicate pieces false) else (walked u n logs >>= λ ls. Some (united (replicate pieces false) ls))) ≡ Some bits → length bits ≡ pieces
    by true q =
        let z : Some (replicate pieces false) ≡ Some bits = q in
        let s : replicate pieces false ≡ bits = cc in
        ap (λ (x : List Bool). length x) (sym s) ∙ length-replicate {A = Bool} pieces false
    by false q = walked_long (walked u n logs) refl q
