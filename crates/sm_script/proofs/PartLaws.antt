-- The commands of words that were read one by one.
use Rattle.std.proofs.Common.{◌≡◌, ◌≢◌, ℕ, ◌<◌, Bool, true, false, List, [], ◌∷◌, length, Option, Some, None, Bor, arith, refl}
use Rattle.std.specs.Prelude.{option_copied, is_some}
use Rattle.sm_base.specs.declared.operations.Mode.{Mode}
use Rattle.common_laws.specs.Lists.{◌>>=◌}
use Rattle.sm_machine.specs.Lines.{after_attach, after_cbt, after_create, after_disk, after_fill, after_label, after_read, after_resize, after_twin, after_write, alone, byte_of, is_on_of, is_raw_of, label_of, mode_of, number_of, sectors_of, uuid_of}
use Rattle.sm_machine.specs.declared.commands.Command.{Command}
use Rattle.sm_machine.specs.declared.commands.Command.TheVariants.{Create, Attach, Resize, Label, Write, Fill, Read, Track}
use Rattle.sm_script.specs.Cuts.{words_behind}
use Rattle.sm_script.proofs.CutLaws.{words_some}

-- another number of words

pub after_create-other : (ws : List (List ℕ)) → length ws ≢ 4 → None ≡ after_create ws
unfolding after_create
after_create-other [] apart = refl
after_create-other (a ∷ []) apart = refl
after_create-other (a ∷ b ∷ []) apart = refl
after_create-other (a ∷ b ∷ c ∷ []) apart = refl
after_create-other (a ∷ b ∷ c ∷ d ∷ []) apart = absurd (apart refl)
after_create-other (a ∷ b ∷ c ∷ d ∷ e ∷ ws) apart = refl

pub after_disk-other : (command : List ℕ → Command) (ws : List (List ℕ)) → length ws ≢ 1 → None ≡ after_disk command ws
unfolding after_disk
after_disk-other command [] apart = refl
after_disk-other command (a ∷ []) apart = absurd (apart refl)
after_disk-other command (a ∷ b ∷ ws) apart = refl

pub after_twin-other : (command : List ℕ → List ℕ → Command) (ws : List (List ℕ)) → length ws ≢ 2 → None ≡ after_twin command ws
unfolding after_twin
after_twin-other command [] apart = refl
after_twin-other command (a ∷ []) apart = refl
after_twin-other command (a ∷ b ∷ []) apart = absurd (apart refl)
after_twin-other command (a ∷ b ∷ c ∷ ws) apart = refl

pub after_attach-other : (ws : List (List ℕ)) → length ws ≢ 2 → None ≡ after_attach ws
unfolding after_attach
after_attach-other [] apart = refl
after_attach-other (a ∷ []) apart = refl
after_attach-other (a ∷ b ∷ []) apart = absurd (apart refl)
after_attach-other (a ∷ b ∷ c ∷ ws) apart = refl

pub after_cbt-other : (ws : List (List ℕ)) → length ws ≢ 2 → None ≡ after_cbt ws
unfolding after_cbt
after_cbt-other [] apart = refl
after_cbt-other (a ∷ []) apart = refl
after_cbt-other (a ∷ b ∷ []) apart = absurd (apart refl)
after_cbt-other (a ∷ b ∷ c ∷ ws) apart = refl

pub after_resize-other : (ws : List (List ℕ)) → length ws ≢ 2 → None ≡ after_resize ws
unfolding after_resize
after_resize-other [] apart = refl
after_resize-other (a ∷ []) apart = refl
after_resize-other (a ∷ b ∷ []) apart = absurd (apart refl)
after_resize-other (a ∷ b ∷ c ∷ ws) apart = refl

pub after_label-other : (ws : List (List ℕ)) → length ws ≢ 2 → None ≡ after_label ws
unfolding after_label
after_label-other [] apart = refl
after_label-other (a ∷ []) apart = refl
after_label-other (a ∷ b ∷ []) apart = absurd (apart refl)
after_label-other (a ∷ b ∷ c ∷ ws) apart = refl

pub after_write-other : (ws : List (List ℕ)) → length ws ≢ 3 → None ≡ after_write ws
unfolding after_write
after_write-other [] apart = refl
after_write-other (a ∷ []) apart = refl
after_write-other (a ∷ b ∷ []) apart = refl
after_write-other (a ∷ b ∷ c ∷ []) apart = absurd (apart refl)
after_write-other (a ∷ b ∷ c ∷ d ∷ ws) apart = refl

pub after_fill-other : (ws : List (List ℕ)) → length ws ≢ 4 → None ≡ after_fill ws
unfolding after_fill
after_fill-other [] apart = refl
after_fill-other (a ∷ []) apart = refl
after_fill-other (a ∷ b ∷ []) apart = refl
after_fill-other (a ∷ b ∷ c ∷ []) apart = refl
after_fill-other (a ∷ b ∷ c ∷ d ∷ []) apart = absurd (apart refl)
after_fill-other (a ∷ b ∷ c ∷ d ∷ e ∷ ws) apart = refl

pub after_read-other : (ws : List (List ℕ)) → length ws ≢ 3 → None ≡ after_read ws
unfolding after_read
after_read-other [] apart = refl
after_read-other (a ∷ []) apart = refl
after_read-other (a ∷ b ∷ []) apart = refl
after_read-other (a ∷ b ∷ c ∷ []) apart = absurd (apart refl)
after_read-other (a ∷ b ∷ c ∷ d ∷ ws) apart = refl

-- each part as it was read, or not

pub after_create-is : (ws : List (List ℕ)) (a b c d : List ℕ) (o : Option (List ℕ)) (p : Option ℕ) (q : Option Bool) (r : Option (List ℕ)) → ws ≡ a ∷ b ∷ c ∷ d ∷ [] → o ≡ uuid_of a → p ≡ number_of b → q ≡ is_raw_of c → r ≡ label_of d
    → (o >>= (λ u. p >>= (λ n. q >>= (λ raw. r >>= (λ text. Some (Create u n raw text)))))) ≡ after_create ws
unfolding after_create
after_create-is ws a b c d o p q r words e_o e_p e_q e_r = rw (words, e_o, e_p, e_q, e_r) refl

pub after_disk-is : (command : List ℕ → Command) (ws : List (List ℕ)) (a : List ℕ) (o : Option (List ℕ)) → ws ≡ a ∷ [] → o ≡ uuid_of a
    → (o >>= (λ u. Some (command u))) ≡ after_disk command ws
unfolding after_disk
after_disk-is command ws a o words e_o = rw (words, e_o) refl

pub after_twin-is : (command : List ℕ → List ℕ → Command) (ws : List (List ℕ)) (a b : List ℕ) (o : Option (List ℕ)) (p : Option (List ℕ)) → ws ≡ a ∷ b ∷ [] → o ≡ uuid_of a → p ≡ uuid_of b
    → (o >>= (λ u. p >>= (λ n. Some (command u n)))) ≡ after_twin command ws
unfolding after_twin
after_twin-is command ws a b o p words e_o e_p = rw (words, e_o, e_p) refl

pub after_attach-is : (ws : List (List ℕ)) (a b : List ℕ) (o : Option (List ℕ)) (p : Option Mode) → ws ≡ a ∷ b ∷ [] → o ≡ uuid_of a → p ≡ mode_of b
    → (o >>= (λ u. p >>= (λ m. Some (Attach u m)))) ≡ after_attach ws
unfolding after_attach
after_attach-is ws a b o p words e_o e_p = rw (words, e_o, e_p) refl

pub after_cbt-is : (ws : List (List ℕ)) (a b : List ℕ) (o : Option (List ℕ)) (p : Option Bool) → ws ≡ a ∷ b ∷ [] → o ≡ uuid_of a → p ≡ is_on_of b
    → (o >>= (λ u. p >>= (λ on. Some (Track u on)))) ≡ after_cbt ws
unfolding after_cbt
after_cbt-is ws a b o p words e_o e_p = rw (words, e_o, e_p) refl

pub after_resize-is : (ws : List (List ℕ)) (a b : List ℕ) (o : Option (List ℕ)) (p : Option ℕ) → ws ≡ a ∷ b ∷ [] → o ≡ uuid_of a → p ≡ number_of b
    → (o >>= (λ u. p >>= (λ n. Some (Resize u n)))) ≡ after_resize ws
unfolding after_resize
after_resize-is ws a b o p words e_o e_p = rw (words, e_o, e_p) refl

pub after_label-is : (ws : List (List ℕ)) (a b : List ℕ) (o : Option (List ℕ)) (p : Option (List ℕ)) → ws ≡ a ∷ b ∷ [] → o ≡ uuid_of a → p ≡ label_of b
    → (o >>= (λ u. p >>= (λ text. Some (Label u text)))) ≡ after_label ws
unfolding after_label
after_label-is ws a b o p words e_o e_p = rw (words, e_o, e_p) refl

pub after_fill-is : (ws : List (List ℕ)) (a b c d : List ℕ) (o : Option (List ℕ)) (p : Option ℕ) (q : Option ℕ) (r : Option ℕ) → ws ≡ a ∷ b ∷ c ∷ d ∷ [] → o ≡ uuid_of a → p ≡ number_of b → q ≡ number_of c → r ≡ byte_of d
    → (o >>= (λ u. p >>= (λ s. q >>= (λ n. r >>= (λ byte. Some (Fill u s n byte)))))) ≡ after_fill ws
unfolding after_fill
after_fill-is ws a b c d o p q r words e_o e_p e_q e_r = rw (words, e_o, e_p, e_q, e_r) refl

pub after_read-is : (ws : List (List ℕ)) (a b c : List ℕ) (o : Option (List ℕ)) (p : Option ℕ) (q : Option ℕ) → ws ≡ a ∷ b ∷ c ∷ [] → o ≡ uuid_of a → p ≡ number_of b → q ≡ number_of c
    → (o >>= (λ u. p >>= (λ s. q >>= (λ n. Some (Read u s n))))) ≡ after_read ws
unfolding after_read
after_read-is ws a b c o p q words e_o e_p e_q = rw (words, e_o, e_p, e_q) refl

pub after_write-is : (ws : List (List ℕ)) (a b c : List ℕ) (o : Option (List ℕ)) (p : Option ℕ) (q : Option (List ℕ)) → ws ≡ a ∷ b ∷ c ∷ [] → o ≡ uuid_of a → p ≡ number_of b → q ≡ sectors_of c
    → (o >>= (λ u. p >>= (λ s. q >>= (λ bytes. Some (Write u s bytes))))) ≡ after_write ws
unfolding after_write
after_write-is ws a b c o p q words e_o e_p e_q = rw (words, e_o, e_p, e_q) refl

-- no word, or some
pub alone-none : (command : Command) (rest : Option (Bor (List ℕ))) → false ≡ is_some rest → Some command ≡ alone command (words_behind (option_copied rest))
unfolding alone
alone-none command None e = refl
alone-none command (Some line) e = cc

some_words : (command : Command) (ws : List (List ℕ)) → 0 < length ws → None ≡ alone command ws
unfolding alone
some_words command [] some = absurd (omega arith)
some_words command (w ∷ ws) some = refl

pub alone-some : (command : Command) (rest : Option (Bor (List ℕ))) → true ≡ is_some rest → None ≡ alone command (words_behind (option_copied rest))
alone-some command None e = cc
alone-some command (Some line) e = some_words command _ (words_some line.now)
