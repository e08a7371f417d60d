-- The blocks of a dynamic file, one behind the other.
use Rattle.std.proofs.Common.{◌≡◌, ◌⊎◌, inl, inr, ⊎_elim, ℕ, ◌+◌, ◌<◌, ◌≤◌, true, List, [], ◌∷◌, ◌++◌, drop, length, zero, suc, Option, None, refl, sym, ap, ◌∙◌, arith, subst, append_assoc}
use Rattle.std.specs.Prelude.{nat_le}
use Rattle.std.proofs.lemmas.Bool.{and_parts}
use Rattle.std.proofs.lemmas.Bool.Decides.{nat_tests}
use Rattle.std.proofs.lemmas.List.{append-nil}
use Rattle.common_laws.specs.Lists.{In}
use Rattle.vhd_stream.specs.Files.{File, FileLayout, IsThere, block_end, entry, table_end}
use Rattle.vhd_import.specs.declared.tables.Entry.{Entry}
use Rattle.vhd_import.specs.Apart.{stand_apart}
use Rattle.vhd_import.specs.Blocks.{GoesOn, IsBeforeBlock, IsBeforeBlocks, IsPastBlocks, IsTabled}
use Rattle.vhd_import.specs.Progress.{HasRead, IsOpenUntil, IsQuiet}
use Rattle.vhd_import.specs.Puts.{Put, put_at}
use Rattle.vhd_import.specs.Room.{Target}
use Rattle.vhd_import.specs.Verdicts.{denial_at}
use Rattle.vhd_import.proofs.BlockLaws.{between, entry-more, tabled-more, there-more}
use Rattle.vhd_import.proofs.DynamicLaws.{open-block}
use Rattle.vhd_import.proofs.EntryLaws.{entry-listed, from-behind, listed-entry}
use Rattle.vhd_import.proofs.HeadLaws.{end-behind, headed}

-- ---- entries that stand apart

pub apart-parts : (from long : ℕ) (e : Entry) (es : List Entry) → stand_apart from long (e ∷ es) ≡ true → (from ≤ e.place) × (stand_apart (e.place + long) long es ≡ true)
unfolding stand_apart
apart-parts from long e es h =
    let p = and_parts (nat_le from e.place) (stand_apart (e.place + long) long es) h in
    ((let t = p.0 in grind (arith, nat_tests)), p.1)

place-of : (place block : ℕ) (e : Entry) → record { place = place; block = block } ≡ e → place ≡ e.place
place-of place block e same = ap (λ (x : Entry). x.place) same

-- ---- a front that has its table

module _ (front : File) (f : FileLayout) (size : ℕ) (w : IsTabled front f size) where
  within : (b : ℕ) → IsThere f front b → b < f.entries
  within b is = let h = headed front f w.known.layout in omega (arith, is.below, h.fits)

  pub there-back : (more : File) (b : ℕ) → IsThere f (front ++ more) b → IsThere f front b
  there-back more b is = record {
    below = is.below;
    named = λ blank_is. is.named (entry-more front more f size w b (let h = headed front f w.known.layout in omega (arith, is.below, h.fits)) ∙ blank_is);
  }

  pub same-place : (more : File) (b : ℕ) → IsThere f front b → entry f (front ++ more) b ≡ entry f front b
  same-place more b is = entry-more front more f size w b (within b is)

  -- sectors of which each block that is there lies behind or in front decide nothing and put nothing
  pub quiet-span : (t : Target) (more : File) (until : ℕ) → ((b : ℕ) → IsThere f front b → (block_end f front b ≤ length (front ++ more)) ⊎ (until ≤ entry f front b)) → IsQuiet t (front ++ more) until
  quiet-span t more until apart = record {
    undenied = λ m k from below less. (here m k from below).1;
    puts = λ m k from below less. (here m k from below).0;
  }
    where
      tab : IsTabled (front ++ more) f size
      tab = tabled-more front more f size w

      here : (m : File) (k : ℕ) → length (front ++ more) ≤ k → k < until → (put_at ((front ++ more) ++ m) k ≡ None) × (denial_at t ((front ++ more) ++ m) k ≡ None)
      here m k from below = between t ((front ++ more) ++ m) f size k (tabled-more (front ++ more) m f size tab) (let e = end-behind front f w.known.layout in omega (arith, e, tab.behind, from))
          (λ b is.
          let all : (front ++ more) ++ m ≡ front ++ (more ++ m) = append_assoc front more m in
          let there : IsThere f front b = there-back (more ++ m) b (subst (λ x. IsThere f x b) all is) in
          let at : entry f ((front ++ more) ++ m) b ≡ entry f front b = ap (λ x. entry f x b) all ∙ same-place (more ++ m) b there in
          ⊎_elim (λ low. inr (omega (arith, low, at, from))) (λ high. inl (omega (arith, high, at, below))) (apart b there))

  -- a file that ends in front of a block that is there is cut
  pub open-until : (more : File) (b until : ℕ) → IsThere f front b → until ≤ entry f front b → IsOpenUntil (front ++ more) until
  open-until more b until is at = λ m short.
      let all : (front ++ more) ++ m ≡ front ++ (more ++ m) = append_assoc front more m in
      let far : length ((front ++ more) ++ m) < block_end f ((front ++ more) ++ m) b = let e : entry f ((front ++ more) ++ m) b ≡ entry f front b = ap (λ x. entry f x b) all ∙ same-place (more ++ m) b is in omega (arith, short, at, e) in
      open-block ((front ++ more) ++ m) f size b (tabled-more (front ++ more) m f size (tabled-more front more f size w)).known
      (subst (λ x. IsThere f x b) (sym all) (there-more front (more ++ m) f size w b is)) far

-- ---- how far the blocks were read

-- a front was read, and more, up to a sector behind the table and behind each block that is there, but those of some entries
pub record IsAmong (t : Target) (had left : Option (List ℕ)) (front : File) (holds : List Put → Type 0) (f : FileLayout) (rest : List Entry) (count : ℕ) : Type 0 where
  pub goes : GoesOn t had left front holds count
  pub left_are : (b : ℕ) → IsThere f front b → (block_end f front b ≤ count) ⊎ In (record { place = entry f front b; block = b }) rest
  pub named : (e : Entry) → In e rest → IsThere f front e.block × (e.place ≡ entry f front e.block)
  pub end : table_end f ≤ count

pub first-among : (t : Target) (had left : Option (List ℕ)) (front : File) (puts : List Put) (holds : List Put → Type 0) (f : FileLayout) (size from : ℕ) (entries : List Entry) → IsBeforeBlocks t had left front puts f size entries → holds puts
    → table_end f ≡ from → IsAmong t had left front holds f entries from
first-among t had left front puts holds f size from entries w held at =
    let same : front ≡ front ++ [] = sym (append-nil front) in
    record {
      goes = record { more = []; puts = puts; read = subst (λ x. HasRead t had left x puts) same w.read; held = held; long = ap (λ (x : File). length x) (sym same) ∙ w.long ∙ at };
      left_are = λ b is. inr (entry-listed f front entries w.same b is);
      named = λ e i. listed-entry f front entries w.same e i;
      end = omega (arith, at);
    }

module _ (t : Target) (had mid : Option (List ℕ)) (front : File) (holds : List Put → Type 0) (f : FileLayout) (size count : ℕ) (e : Entry) (rest : List Entry) (w : IsTabled front f size) (k : IsAmong t had mid front holds f (e ∷ rest) count) (apart : stand_apart count (1 + f.block) (e ∷ rest) ≡ true) where
  first : IsThere f front e.block × (e.place ≡ entry f front e.block)
  first = k.named e (inl refl)

  behind : (b : ℕ) → In (record { place = entry f front b; block = b }) rest → e.place + (1 + f.block) ≤ entry f front b
  behind b i = from-behind (e.place + (1 + f.block)) (1 + f.block) rest (record { place = entry f front b; block = b }) (apart-parts count (1 + f.block) e rest apart).1 i

  pub quiet-place : IsQuiet t (front ++ k.goes.more) e.place
  quiet-place = quiet-span front f size w t k.goes.more e.place (λ b is. ⊎_elim
      (λ low. inl (omega (arith, low, k.goes.long)))
      (λ (i : (record { place = entry f front b; block = b } ≡ e) ⊎ In (record { place = entry f front b; block = b }) rest). ⊎_elim (λ same. inr (let s = place-of (entry f front b) b e same in omega (arith, s))) (λ later. inr (let s = behind b later in omega (arith, s))) i)
      (k.left_are b is))

  pub open-place : IsOpenUntil (front ++ k.goes.more) e.place
  open-place = open-until front f size w k.goes.more e.block e.place first.0 (omega (arith, first.1))

  module _ (now : Option (List ℕ)) (more : File) (read : HasRead t had now ((front ++ k.goes.more) ++ more) k.goes.puts) (long : length ((front ++ k.goes.more) ++ more) ≡ e.place) where
    all : (front ++ k.goes.more) ++ more ≡ front ++ (k.goes.more ++ more)
    all = append_assoc front k.goes.more more

    pub before-block : IsBeforeBlock t had now ((front ++ k.goes.more) ++ more) k.goes.puts f size e.place e.block
    before-block = record {
      read = read;
      tabled = subst (λ x. IsTabled x f size) (sym all) (tabled-more front (k.goes.more ++ more) f size w);
      there = subst (λ x. IsThere f x e.block) (sym all) (there-more front (k.goes.more ++ more) f size w e.block first.0);
      at = ap (λ x. entry f x e.block) all ∙ same-place front f size w (k.goes.more ++ more) e.block first.0 ∙ sym first.1;
      long = long;
    }

    pub next-among : (left : Option (List ℕ)) (after : List Put → Type 0) (end : ℕ) → GoesOn t had left ((front ++ k.goes.more) ++ more) after end → end ≡ e.place + 1 + f.block → IsAmong t had left front after f rest end
    next-among left after end j at =
        let ahead = (apart-parts count (1 + f.block) e rest apart).0 in
        let same : ((front ++ k.goes.more) ++ more) ++ j.more ≡ front ++ ((k.goes.more ++ more) ++ j.more) = ap (λ (x : File). x ++ j.more) all ∙ append_assoc front (k.goes.more ++ more) j.more in
        record {
          goes = record {
            more = (k.goes.more ++ more) ++ j.more;
            puts = j.puts;
            read = subst (λ x. HasRead t had left x j.puts) same j.read;
            held = j.held;
            long = ap (λ (x : File). length x) (sym same) ∙ j.long;
          };
          left_are = λ b is. ⊎_elim
              (λ low. inl (omega (arith, low, ahead, at)))
              (λ (i : (record { place = entry f front b; block = b } ≡ e) ⊎ In (record { place = entry f front b; block = b }) rest). ⊎_elim (λ one. inl (let s = place-of (entry f front b) b e one in omega (arith, s, at))) (λ later. inr later) i)
              (k.left_are b is);
          named = λ d i. k.named d (inr i);
          end = omega (arith, k.end, ahead, at);
        }

pub last-among : (t : Target) (had left : Option (List ℕ)) (front : File) (holds : List Put → Type 0) (f : FileLayout) (count : ℕ) → IsAmong t had left front holds f [] count → IsPastBlocks t had left front holds f count
last-among t had left front holds f count k = record {
  goes = k.goes;
  past = λ b is. ⊎_elim (λ low. low) (λ none. absurd none) (k.left_are b is);
  end = k.end;
}

pub past-none : (es : List Entry) (i : ℕ) → length es ≤ i → drop i es ≡ []
past-none [] zero past = refl
past-none [] (suc i) past = refl
past-none (e ∷ es) zero past = absurd (omega (arith, past))
past-none (e ∷ es) (suc i) past = past-none es i (omega (arith, past))
