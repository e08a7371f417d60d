-- Laws of what is read through turns.
use Rattle.std.proofs.Common.{◌≡◌, ◌≢◌, ◌⊎◌, inl, inr, ℕ, zero, suc, Bool, true, false, List, Some, None, refl, sym, ap, ◌∙◌, subst}
use Rattle.sm_base.specs.declared.names.Name.{Name}
use Rattle.vg_meta.specs.Tables.{name_eq}
use Rattle.vg_meta.proofs.NameLaws.{name_eq-true, name_eq-false}
use Rattle.sm_standing.specs.Images.{ImageAnswer, here, up, walk}
use Rattle.sm_standing.specs.Answering.{ImageAnswers, answer, Reads, ReadsAlike, Carries, IsClosed, IsNoParent, SameBut, SendsUpAlone, renamed_answer}

-- ---- turns

pub reads_here : (f : ImageAnswers) (n : Name) (bytes : List ℕ) → f n ≡ here bytes → Reads f n bytes
unfolding answer
reads_here f n bytes h = (suc zero, ap (λ t. elim t [ here b ↦ Some b | up p ↦ None ]) h)

pub reads_up : (f : ImageAnswers) (n p : Name) (bytes : List ℕ) → f n ≡ up p → Reads f p bytes → Reads f n bytes
unfolding answer
reads_up f n p bytes h r = (suc r.0, ap (λ t. elim t [ here b ↦ Some b | up q ↦ answer r.0 f q ]) h ∙ r.1)

-- what is read after a turn up is read before it, and the other way round
pub up_reads : (f : ImageAnswers) (n p : Name) (bytes : List ℕ) → f n ≡ up p → Reads f n bytes → Reads f p bytes
unfolding answer
up_reads f n p bytes h (zero, is) = absurd (let e = is in cc)
up_reads f n p bytes h (suc k, is) = (k, sym (ap (λ t. elim t [ here b ↦ Some b | up q ↦ answer k f q ]) h) ∙ is)

-- where an image answers, nothing else is read of it
pub here_reads : (f : ImageAnswers) (n : Name) (bytes other : List ℕ) → f n ≡ here bytes → Reads f n other → other ≡ bytes
unfolding answer
here_reads f n bytes other h (zero, is) = absurd (let e = is in cc)
here_reads f n bytes other h (suc k, is) = let e = sym (ap (λ t. elim t [ here b ↦ Some b | up q ↦ answer k f q ]) h) ∙ is in (let x = e in cc)

carried-turn : (R : Name → Name → Type 0) (f g : ImageAnswers) → Carries R f g → (k : ℕ) (n m : Name) (bytes : List ℕ) → R n m
    → ((p q : Name) → R p q → answer k f p ≡ Some bytes → Reads g q bytes)
    → (t : ImageAnswer) → f n ≡ t → elim t [ here b ↦ Some b | up q ↦ answer k f q ] ≡ Some bytes → Reads g m bytes
carried-turn R f g c k n m bytes r rest (here b) is h = let e : b ≡ bytes = (let x = h in cc) in c.answers n m bytes r (is ∙ ap here e)
carried-turn R f g c k n m bytes r rest (up p) is h = let w = c.sends n m p r is in w.2 bytes (rest p w.0 w.1 h)

carried-steps : (R : Name → Name → Type 0) (f g : ImageAnswers) → Carries R f g → (k : ℕ) (n m : Name) (bytes : List ℕ) → R n m → answer k f n ≡ Some bytes → Reads g m bytes
unfolding answer
carried-steps R f g c zero n m bytes r h = absurd (let e = h in cc)
carried-steps R f g c (suc k) n m bytes r h = carried-turn R f g c k n m bytes r (λ p q s i. carried-steps R f g c k p q bytes s i) (f n) refl h

-- related names read alike
pub carried : (R : Name → Name → Type 0) (f g : ImageAnswers) → Carries R f g → (n m : Name) → R n m → ReadsAlike f n g m
carried R f g c n m r bytes reads = carried-steps R f g c reads.0 n m bytes r reads.1

-- ---- the laws

-- equal turns on a set that parents do not leave: the same reads there
pub same_on : (P : Name → Type 0) (f g : ImageAnswers) → IsClosed P f → ((n : Name) → P n → g n ≡ f n) → (n : Name) → P n → ReadsAlike f n g n
same_on P f g inside same n p = carried (λ a b. (a ≡ b) × P a) f g c n n (refl, p)
  where
    c : Carries (λ a b. (a ≡ b) × P a) f g
    c = record {
      answers = λ a b bytes r h. subst (λ x. Reads g x bytes) r.0 (reads_here g a bytes (same a r.1 ∙ h));
      sends = λ a b q r h. (q, (refl, inside.closed a q r.1 h), λ bytes reads. subst (λ x. Reads g x bytes) r.0 (reads_up g a q bytes (same a r.1 ∙ h) reads));
    }

-- an image that is nobody's parent is changed, comes or goes: all others read alike
pub no_parent : (f g : ImageAnswers) (x : Name) → IsNoParent f x → SameBut f g x → (n : Name) → n ≢ x → ReadsAlike f n g n
no_parent f g x nobody same = same_on (λ n. n ≢ x) f g (record { closed = λ n p other h e. nobody n (h ∙ ap up e) }) (λ n other. same n other)

unwritten : (f g : ImageAnswers) (x : Name) → IsNoParent f x → SameBut f g x → g x ≡ f x → (bytes : List ℕ) → Reads g x bytes → (t : ImageAnswer) → g x ≡ t → Reads f x bytes
unwritten f g x nobody same kept bytes reads (here b) is =
    subst (λ c. Reads f x c) (sym (here_reads g x b bytes is reads)) (reads_here f x b (sym kept ∙ is))
unwritten f g x nobody same kept bytes reads (up p) is =
    let sent : f x ≡ up p = sym kept ∙ is in
    reads_up f x p bytes sent (same_on (λ n. n ≢ x) g f
    (record { closed = λ n q other h e. nobody n (sym (same n other) ∙ h ∙ ap up e) }) (λ n other. sym (same n other)) p (λ e. nobody x (sent ∙ ap up e)) bytes (up_reads g x p bytes is reads))

-- a guest's write into an image that is nobody's parent: it reads as before, or the new bytes
pub guest_write : (f g : ImageAnswers) (x : Name) (new : List ℕ) → IsNoParent f x → SameBut f g x → (g x ≡ f x) ⊎ (g x ≡ here new)
    → (bytes : List ℕ) → Reads g x bytes → Reads f x bytes ⊎ (bytes ≡ new)
guest_write f g x new nobody same (inl kept) bytes reads = inl (unwritten f g x nobody same kept bytes reads (g x) refl)
guest_write f g x new nobody same (inr written) bytes reads = inr (here_reads g x new bytes written reads)

-- a parent is changed only where its only child answers: all but the parent read alike
pub copy_below : (f g : ImageAnswers) (v p : Name) (bytes : List ℕ) → SendsUpAlone f v p → f v ≡ here bytes → SameBut f g p → (n : Name) → n ≢ p → ReadsAlike f n g n
copy_below f g v p bytes only answers same =
    same_on (λ n. n ≢ p) f g (record {
      closed = λ n q other h e.
          let sent = h ∙ ap up e in let at = only n sent in let both : here bytes ≡ up p = sym (ap f at ∙ answers) ∙ sent in (let x = both in cc);
    }) (λ n other. same n other)

-- what is read of the old parent is read of the child
relinked_child : (f g : ImageAnswers) (c v p : Name) → g c ≡ up p → SameBut f g c → v ≢ c
    → ((bytes : List ℕ) → f v ≡ here bytes → Reads g p bytes) → ((q : Name) → f v ≡ up q → q ≡ p) → (t : ImageAnswer) → f v ≡ t → ReadsAlike g v g c
relinked_child f g c v p now same other answers sends (here b) is bytes reads =
    let at : bytes ≡ b = here_reads g v b bytes (same v other ∙ is) reads in
    subst (λ x. Reads g c x) (sym at) (reads_up g c p b now (answers b is))
relinked_child f g c v p now same other answers sends (up q) is bytes reads =
    reads_up g c p bytes now (subst (λ x. Reads g x bytes) (sends q is) (up_reads g v q bytes (same v other ∙ is) reads))

relink_sends : (f g : ImageAnswers) (c v : Name) → f c ≡ up v → SameBut f g c → ReadsAlike g v g c → (n q : Name) → f n ≡ up q → (b : Bool) → name_eq n c ≡ b → ReadsAlike g q g n
relink_sends f g c v linked same child n q h true is bytes reads =
    let at = name_eq-true n c is in
    let sent : up q ≡ up v = sym h ∙ ap f at ∙ linked in
    let to : q ≡ v = (let x = sent in cc) in
    subst (λ m. Reads g m bytes) (sym at) (child bytes (subst (λ m. Reads g m bytes) to reads))
relink_sends f g c v linked same child n q h false is bytes reads = reads_up g n q bytes (same n (name_eq-false n c is) ∙ h) reads

relink_answers : (f g : ImageAnswers) (c v : Name) → f c ≡ up v → SameBut f g c → (n : Name) (bytes : List ℕ) → f n ≡ here bytes → (b : Bool) → name_eq n c ≡ b → Reads g n bytes
relink_answers f g c v linked same n bytes h true is =
    let both : here bytes ≡ up v = sym h ∙ ap f (name_eq-true n c is) ∙ linked in absurd (let x = both in cc)
relink_answers f g c v linked same n bytes h false is = reads_here g n bytes (same n (name_eq-false n c is) ∙ h)

relink_carries : (f g : ImageAnswers) (c v p : Name) → f c ≡ up v → g c ≡ up p → SameBut f g c → ReadsAlike g v g c → Carries (λ a b. a ≡ b) f g
relink_carries f g c v p linked now same child = record {
  answers = λ n m bytes r h. subst (λ x. Reads g x bytes) r (relink_answers f g c v linked same n bytes h (name_eq n c) refl);
  sends = λ n m q r h. (q, refl, λ bytes reads. subst (λ x. Reads g x bytes) r (relink_sends f g c v linked same child n q h (name_eq n c) refl bytes reads));
}

-- a child is linked from v to its parent p, which answers whatever v answers: all read alike
pub relinked : (f g : ImageAnswers) (c v p : Name) → f c ≡ up v → g c ≡ up p → c ≢ v → SameBut f g c
    → ((bytes : List ℕ) → f v ≡ here bytes → Reads g p bytes) → ((q : Name) → f v ≡ up q → q ≡ p) → (n : Name) → ReadsAlike f n g n
relinked f g c v p linked now other same answers sends n = carried (λ a b. a ≡ b) f g (relink_carries f g c v p linked now same (relinked_child f g c v p now same (λ e. other (sym e)) answers sends (f v) refl)) n n refl

-- an image under another name, and each link to it with it: it reads under the new name what it read under the old one
pub image_renamed : (rename : Name → Name) (f g : ImageAnswers) → ((n : Name) → g (rename n) ≡ renamed_answer rename (f n)) → (n : Name) → ReadsAlike f n g (rename n)
image_renamed rename f g turns n = carried (λ a b. b ≡ rename a) f g c n (rename n) refl
  where
    c : Carries (λ a b. b ≡ rename a) f g
    c = record {
      answers = λ a b bytes r h. subst (λ x. Reads g x bytes) (sym r) (reads_here g (rename a) bytes (turns a ∙ ap (renamed_answer rename) h));
      sends = λ a b p r h. (rename p, refl, λ bytes reads. subst (λ x. Reads g x bytes) (sym r) (reads_up g (rename a) (rename p) bytes (turns a ∙ ap (renamed_answer rename) h) reads));
    }

-- ---- the walk of a bounded number of images

walk_turn : (f : ImageAnswers) (k : ℕ) (bytes : List ℕ) (t : ImageAnswer) → ((p : Name) → answer k f p ≡ Some bytes → walk k f p ≡ bytes)
    → elim t [ here b ↦ Some b | up p ↦ answer k f p ] ≡ Some bytes → elim t [ here b ↦ b | up p ↦ walk k f p ] ≡ bytes
walk_turn f k bytes (here b) rest h = (let x = h in cc)
walk_turn f k bytes (up p) rest h = rest p h

-- where so many turns give bytes, a walk of so many images gives them
pub walked : (f : ImageAnswers) (k : ℕ) (n : Name) (bytes : List ℕ) → answer k f n ≡ Some bytes → walk k f n ≡ bytes
unfolding answer walk
walked f zero n bytes h = absurd (let e = h in cc)
walked f (suc k) n bytes h = walk_turn f k bytes (f n) (λ p i. walked f k p bytes i) h
