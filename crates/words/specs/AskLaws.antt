-- What is asked, by the number of words; and a number beyond 64 bits asks as the largest number does.
-- Assumes nothing.
use Rattle.std.specs.Prelude.{ℕ, zero, suc, min, ◌≤◌, ◌≡◌, refl, List, [], ◌∷◌, map, length, take}
use Rattle.std.proofs.Common.{sym, ap, ◌∙◌, arith, take_all, length-take}
use Rattle.std.proofs.lemmas.Simd.{map-map}
use Rattle.std.proofs.lemmas.List.{length-map}
use Rattle.rules.specs.Words.{Word, Question, boards_name, values_name, margin_name, unfold_name, gap_name, number, other, boards_asked, values_asked, margin_asked, unfold_asked, gap_asked, nothing_asked, with_number, with_none, asks, word_of, question_of}
use Rattle.words.specs.declared.Question as code
use Rattle.words.specs.Words.{capped, capped_word, capped_question, read_as, asked_by, Asks, AsksFirst}

-- ---- words of which there are too few or too many

none_not : (q : Question) (ws : List Word) → (length ws ≡ 0 → ⊥) → with_none q ws ≡ nothing_asked
unfolding with_none
none_not q [] h = absurd (h refl)
none_not q (w ∷ ws) h = refl

number_not : (f : ℕ → List Word → Question) (ws : List Word) → ((n : ℕ) (vs : List Word) → suc (length vs) ≡ length ws → f n vs ≡ nothing_asked)
    → with_number f ws ≡ nothing_asked
unfolding with_number
number_not f [] h = refl
number_not f (boards_name ∷ ws) h = refl
number_not f (values_name ∷ ws) h = refl
number_not f (margin_name ∷ ws) h = refl
number_not f (unfold_name ∷ ws) h = refl
number_not f (gap_name ∷ ws) h = refl
number_not f (number n ∷ ws) h = h n ws refl
number_not f (other ∷ ws) h = refl

-- one number, and no word more
pub one_not : (f : ℕ → Question) (ws : List Word) → (length ws ≡ 1 → ⊥) → with_number (λ q. with_none (f q)) ws ≡ nothing_asked
one_not f ws h = number_not _ ws (λ n vs e. none_not (f n) vs (λ z. h (omega arith)))

-- four numbers, and no word more
pub four_not : (ws : List Word) → (length ws ≡ 4 → ⊥) → asks (margin_name ∷ ws) ≡ nothing_asked
unfolding asks
four_not ws h =
    number_not _ ws (λ i vs e. number_not _ vs (λ j us f. number_not _ us (λ n ts g. one_not (margin_asked i j n) ts (λ z. h (omega arith)))))

-- `boards Q` and `values Q` are two words, `margin I J N Q` are five, `unfold` and `gap` are one
pub count_not : (ws : List Word) → (length ws ≡ 0 → ⊥) → (length ws ≡ 1 → ⊥) → (length ws ≡ 2 → ⊥) → (length ws ≡ 5 → ⊥) → asks ws ≡ nothing_asked
unfolding asks
count_not [] none one two five = absurd (none refl)
count_not (boards_name ∷ ws) none one two five = one_not boards_asked ws (λ e. two (ap suc e))
count_not (values_name ∷ ws) none one two five = one_not values_asked ws (λ e. two (ap suc e))
count_not (margin_name ∷ ws) none one two five = four_not ws (λ e. five (ap suc e))
count_not (unfold_name ∷ ws) none one two five = none_not unfold_asked ws (λ e. one (ap suc e))
count_not (gap_name ∷ ws) none one two five = none_not gap_asked ws (λ e. one (ap suc e))
count_not (number n ∷ ws) none one two five = refl
count_not (other ∷ ws) none one two five = refl

-- ---- words that begin with those that are handed over

-- where there are not more than five, they are all
pub asks_all : {first vs : List Word} {q : Question} → first ≡ vs → q ≡ asks vs → length vs ≤ 5
    → (ws : List Word) → min (length ws) 6 ≡ min (length first) 6 → take 5 ws ≡ take 5 first → q ≡ asks ws
asks_all {first} {vs} e a k ws l f =
    let h : length first ≡ length vs = ap length e in
    a ∙ ap asks (sym e ∙ sym (take_all 5 first (omega arith)) ∙ sym f ∙ take_all 5 ws (omega arith))

-- what is asked of words of which the first were handed over, as many as there are or more than five, is asked by their number and the first five
pub first_asks : (first : List Word) (q : code.Question) → AsksFirst first q → (count : ℕ) → min count 6 ≡ min (length first) 6 → Asks count (take 5 first) q
first_asks first q asked count c ws l f =
    asked ws (ap (λ (n : ℕ). min n 6) l ∙ c) (f ∙ take_all count (take 5 first) (simp length-take (omega arith)))

-- ---- a number beyond 64 bits

capped_none : (q : Question) (ws : List Word) → capped_question (with_none q ws) ≡ with_none (capped_question q) (map capped_word ws)
unfolding with_none capped_question
capped_none q [] = refl
capped_none q (w ∷ ws) = refl

capped_number : (f g : ℕ → List Word → Question) → ((n : ℕ) (vs : List Word) → capped_question (f n vs) ≡ g (capped n) (map capped_word vs)) → (ws : List Word)
    → capped_question (with_number f ws) ≡ with_number g (map capped_word ws)
unfolding with_number capped_question capped_word
capped_number f g h [] = refl
capped_number f g h (boards_name ∷ ws) = refl
capped_number f g h (values_name ∷ ws) = refl
capped_number f g h (margin_name ∷ ws) = refl
capped_number f g h (unfold_name ∷ ws) = refl
capped_number f g h (gap_name ∷ ws) = refl
capped_number f g h (number n ∷ ws) = h n ws
capped_number f g h (other ∷ ws) = refl

capped_asks : (ws : List Word) → capped_question (asks ws) ≡ asks (map capped_word ws)
unfolding asks capped_question capped_word
capped_asks [] = refl
capped_asks (boards_name ∷ ws) = capped_number _ _ (λ q. capped_none (boards_asked q)) ws
capped_asks (values_name ∷ ws) = capped_number _ _ (λ q. capped_none (values_asked q)) ws
capped_asks (margin_name ∷ ws) =
    capped_number _ _ (λ i. capped_number _ _ (λ j. capped_number _ _ (λ n. capped_number _ _ (λ q. capped_none (margin_asked i j n q))))) ws
capped_asks (unfold_name ∷ ws) = capped_none unfold_asked ws
capped_asks (gap_name ∷ ws) = capped_none gap_asked ws
capped_asks (number n ∷ ws) = refl
capped_asks (other ∷ ws) = refl

-- ---- words by their bytes

map_take : {A B : Type 0} (f : A → B) (n : ℕ) (xs : List A) → map f (take n xs) ≡ take n (map f xs)
map_take f zero xs = refl
map_take f (suc n) [] = refl
map_take f (suc n) (x ∷ xs) = ap (λ (ys : List _). f x ∷ ys) (map_take f n xs)

-- what is asked of words as they were read is asked of the words, a number beyond 64 bits held as the largest
pub asks_words : (ws : List (List ℕ)) (five : List Word) (q : code.Question) → take (length ws) five ≡ map read_as (take 5 ws)
    → Asks (length ws) five q → asked_by q ≡ capped_question (question_of ws)
unfolding question_of
asks_words ws five q read asked =
    asked (map read_as ws) (length-map ws read_as) (sym (map_take read_as 5 ws) ∙ sym read)
    ∙ ap asks (sym (map-map capped_word word_of ws))
    ∙ sym (capped_asks (map word_of ws))
