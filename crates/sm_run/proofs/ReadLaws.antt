-- Reading a line in pieces.
use Rattle.std.proofs.Common.{◌≡◌, ◌≢◌, ℕ, ◌+◌, ◌-◌, ◌≤◌, All, arith, true, Ok, List, [], ◌∷◌, ◌++◌, length, length-append, take, Option, refl, sym, ap, subst, ◌∙◌, append_assoc}
use Rattle.std.proofs.lemmas.List.{take_at, nil_from_length}
use Rattle.std.proofs.lemmas.List.Elements.{All-push}
use Rattle.std.specs.Io.{StopsAt}
use Rattle.sm_disk.specs.Streams.{Takes}
use Rattle.sm_disk.proofs.StreamLaws.{Takes-none, Takes-then}
use Rattle.sm_run.specs.Parts.{front_of, is_in_line, HasRead}
use Rattle.sm_run.specs.declared.reading.Ending.TheVariants.{Newline, PastLimit}
use Rattle.sm_run.proofs.LineLaws.{in_line-all, in_line-append, in_line-none, front_of-none, front_of-push}

-- so much of a line was read
pub record Reading (had left : Option (List ℕ)) (room room' : ℕ) (buffer : List ℕ) : Type 0 where
  pub bytes : List ℕ
  pub in_line : is_in_line bytes ≡ true
  pub kept : buffer ≡ front_of bytes
  pub takes : Takes had bytes left
  pub within : room' + length bytes ≡ room

pub reading-begins : (had : Option (List ℕ)) (room : ℕ) (buffer : List ℕ) → buffer ≡ [] → Reading had had room room buffer
reading-begins had room buffer is = record {
  bytes = [];
  in_line = in_line-none;
  kept = is ∙ sym front_of-none;
  takes = Takes-none had;
  within = omega arith;
}

-- a piece in which no newline stands
pub reading-goes_on : (had left left' : Option (List ℕ)) (room room' : ℕ) (buffer buffer' : List ℕ) (piece : List ℕ)
    → Reading had left room room' buffer → Takes left piece left' → All (λ b. b ≢ 10) piece → length piece ≤ room' → buffer' ≡ front_of (buffer ++ piece)
    → Reading had left' room (room' - length piece) buffer'
reading-goes_on had left left' room room' buffer buffer' piece r gives other some is = record {
  bytes = r.bytes ++ piece;
  in_line = in_line-append r.bytes piece r.in_line (in_line-all piece other);
  kept = is ∙ ap (λ l. front_of (l ++ piece)) r.kept ∙ front_of-push r.bytes piece;
  takes = Takes-then had left left' r.bytes piece r.takes gives;
  within = omega (arith, length-append r.bytes piece, r.within);
}

-- the front of a piece in which a newline may stand at the end alone
front_of_piece : (piece front : List ℕ) (last : ℕ) → StopsAt piece 10 → piece ≡ front ++ last ∷ [] → All (λ b. b ≢ 10) front
front_of_piece piece front last stops is =
    let long : length piece ≡ length front + 1 = ap length is ∙ omega (arith, length-append front (last ∷ [])) in
    let count : length piece - 1 ≡ length front = omega (arith, long) in
    subst (All (λ b. b ≢ 10)) (ap (λ n. take n piece) count ∙ ap (take (length front)) is ∙ take_at front (last ∷ []) (length front) refl) stops

-- a piece whose last byte is no newline
pub piece-other : (piece front : List ℕ) (last : ℕ) → StopsAt piece 10 → piece ≡ front ++ last ∷ [] → last ≢ 10 → All (λ b. b ≢ 10) piece
piece-other piece front last stops is other =
    subst (All (λ b. b ≢ 10)) (sym is) (All-push (λ b. b ≢ 10) front last (front_of_piece piece front last stops is) other)

-- a piece that ends with the newline
pub reading-newline : (had left left' : Option (List ℕ)) (room room' : ℕ) (buffer buffer' : List ℕ) (piece front : List ℕ) (last : ℕ)
    → Reading had left room room' buffer → Takes left piece left' → StopsAt piece 10 → piece ≡ front ++ last ∷ [] → last ≡ 10
    → length piece ≤ room' → buffer' ≡ front_of (buffer ++ front)
    → HasRead (Ok Newline) had left' room (room' - length piece) buffer'
reading-newline had left left' room room' buffer buffer' piece front last r gives stops is ends some kept =
    let whole : piece ≡ front ++ 10 ∷ [] = is ∙ ap (λ b. front ++ b ∷ []) ends in
    let long : length piece ≡ length front + 1 = ap length is ∙ omega (arith, length-append front (last ∷ [])) in
    let taken : Takes had (r.bytes ++ piece) left' = Takes-then had left left' r.bytes piece r.takes gives in
    let P : List ℕ → Type 0 = λ l. Takes had l left' in
    record {
      bytes = r.bytes ++ front;
      in_line = in_line-append r.bytes front r.in_line (in_line-all front (front_of_piece piece front last stops is));
      kept = kept ∙ ap (λ l. front_of (l ++ front)) r.kept ∙ front_of-push r.bytes front;
      ends = (
        subst P (ap (λ l. r.bytes ++ l) whole ∙ sym (append_assoc r.bytes front (10 ∷ []))) taken,
        omega (arith, length-append r.bytes front, r.within, long),
      );
    }

-- a byte past the most of a script
pub reading-past : (had left left' : Option (List ℕ)) (room room' room'' : ℕ) (buffer : List ℕ) (piece front : List ℕ) (last : ℕ)
    → Reading had left room room' buffer → Takes left piece left' → piece ≡ front ++ last ∷ [] → length piece ≤ 1 → room' ≡ 0
    → HasRead (Ok PastLimit) had left' room room'' buffer
reading-past had left left' room room' room'' buffer piece front last r gives is short none =
    let long : length piece ≡ length front + 1 = ap length is ∙ omega (arith, length-append front (last ∷ [])) in
    let empty : front ≡ [] = nil_from_length front (omega (arith, long)) in
    let P : List ℕ → Type 0 = λ l. Takes left l left' in
    record {
      bytes = r.bytes;
      in_line = r.in_line;
      kept = r.kept;
      ends = (last, Takes-then had left left' r.bytes (last ∷ []) r.takes (subst P (is ∙ ap (λ l. l ++ last ∷ []) empty) gives), omega (arith, r.within, none));
    }
