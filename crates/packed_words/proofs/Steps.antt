-- Steps of the walk through packed words.
use Rattle.std.proofs.Common.{◌≡◌, ◌≢◌, ◌<◌, ◌≤◌, ◌+◌, ◌++◌, [], ◌∷◌, List, ℕ, zero, suc, Bool, true, false, drop, length, refl, sym, ap, ◌∙◌, get_or, map, string_bytes, String, Global, Option, Some, None}
use Rattle.std.specs.Prelude.{◌&&◌, if◌then◌else◌, ⊤, not, option_map, ◌==◌}
use Rattle.std.specs.List.{list_all}
use Rattle.std.specs.Str.{IsUtf8, is_utf8}
use Rattle.std.proofs.lemmas.Bool.{false≢true}
use Rattle.std.proofs.lemmas.List.{at_drop_more, drop_all, map_push, append-nil}
use Rattle.std.proofs.lemmas.Str.{IsUtf8-from_is_utf8, IsUtf8-string_bytes, is_utf8-from_IsUtf8}
use Rattle.std.proofs.Math.Seq.{append_snoc}
use Rattle.packed_words.specs.PackedWords.{begun_by, has_no_zero, packed_of, texts_in, texts_of, words_in}

-- words behind others
abbrev pub behind : List (List ℕ) → Option (List (List ℕ)) → Option (List (List ℕ))
behind done = option_map (λ words. done ++ words)

-- words of which the first begins with these bytes
abbrev pub begun_with : List ℕ → Option (List (List ℕ)) → Option (List (List ℕ))
begun_with [] words = words
begun_with (byte ∷ begun) words = begun_by byte (begun_with begun words)

-- ---- one byte

-- a byte that is not 0 goes to the word that has begun
goes_on : (begun : List ℕ) (byte : ℕ) (rest : List ℕ) → byte ≢ 0
    → begun_with begun (words_in (byte ∷ rest)) ≡ begun_with (begun ++ byte ∷ []) (words_in rest)
unfolding words_in
goes_on [] zero rest differs = elim (differs refl) [ ]
goes_on [] (suc byte) rest differs = refl
goes_on (first ∷ begun) byte rest differs = ap (begun_by first) (goes_on begun byte rest differs)

-- a byte 0 ends it
one_more : (byte : ℕ) (begun : List ℕ) (words : Option (List (List ℕ)))
    → begun_by byte (option_map (λ words. begun ∷ words) words)
    ≡ option_map (λ words. (byte ∷ begun) ∷ words) words
one_more byte begun None = refl
one_more byte begun (Some words) = refl

at_zero : (begun rest : List ℕ)
    → begun_with begun (words_in (0 ∷ rest)) ≡ option_map (λ words. begun ∷ words) (words_in rest)
unfolding words_in
at_zero [] rest = refl
at_zero (byte ∷ begun) rest =
    ap (begun_by byte) (at_zero begun rest) ∙ one_more byte begun (words_in rest)

ends : (begun : List ℕ) (byte : ℕ) (rest : List ℕ) → byte ≡ 0
    → begun_with begun (words_in (byte ∷ rest)) ≡ option_map (λ words. begun ∷ words) (words_in rest)
ends begun byte rest is = rw is (at_zero begun rest)

-- the same of the byte at a place
next_goes_on : (begun packed : List ℕ) (i : ℕ) → i < length packed → get_or packed i 0 ≢ 0
    → begun_with begun (words_in (drop i packed))
    ≡ begun_with (begun ++ get_or packed i 0 ∷ []) (words_in (drop (i + 1) packed))
next_goes_on begun packed i inside differs =
    at_drop_more (λ left. begun_with begun (words_in left)) packed i 0 inside
    ∙ goes_on begun (get_or packed i 0) (drop (i + 1) packed) differs

next_ends : (begun packed : List ℕ) (i : ℕ) → i < length packed → get_or packed i 0 ≡ 0
    → begun_with begun (words_in (drop i packed))
    ≡ option_map (λ words. begun ∷ words) (words_in (drop (i + 1) packed))
next_ends begun packed i inside same =
    at_drop_more (λ left. begun_with begun (words_in left)) packed i 0 inside
    ∙ ends begun (get_or packed i 0) (drop (i + 1) packed) same

-- at the end
over : words_in [] ≡ Some []
unfolding words_in
over = refl

none_left : (packed : List ℕ) (i : ℕ) → length packed ≤ i → words_in (drop i packed) ≡ Some []
none_left packed i past = ap words_in (drop_all i packed past) ∙ over

-- bytes that have begun a word are not ended there
not_over : (byte : ℕ) (begun : List ℕ) → begun_with (byte ∷ begun) (Some []) ≡ None
not_over byte [] = refl
not_over byte (next ∷ begun) = ap (begun_by byte) (not_over next begun)

-- ---- what the walk keeps

behind_one_more : (done : List (List ℕ)) (word : List ℕ) (words : Option (List (List ℕ)))
    → behind done (option_map (λ words. word ∷ words) words) ≡ behind (done ++ word ∷ []) words
behind_one_more done word None = refl
behind_one_more done word (Some words) = ap Some (sym (append_snoc done word words))

-- a word is ended
pub ended : {X : Type 0} (shown : X → List ℕ) (words after : List X) (word : X)
    (begun packed : List ℕ) (i : ℕ) → i < length packed → get_or packed i 0 ≡ 0
    → shown word ≡ begun → after ≡ words ++ word ∷ []
    → words_in packed ≡ behind (map shown words) (begun_with begun (words_in (drop i packed)))
    → words_in packed ≡ behind (map shown after) (words_in (drop (i + 1) packed))
ended shown words after word begun packed i inside zero_byte is pushed held =
    let rest : Option (List (List ℕ)) = words_in (drop (i + 1) packed) in
    held ∙ ap (behind (map shown words)) (next_ends begun packed i inside zero_byte)
    ∙ ap (λ one. behind (map shown words) (option_map (λ words. one ∷ words) rest)) (sym is)
    ∙ behind_one_more (map shown words) (shown word) rest
    ∙ ap (λ done. behind done rest) (sym (map_push shown words word))
    ∙ ap (λ all. behind (map shown all) rest) (sym pushed)

-- a word goes on
pub lengthened : {X : Type 0} (shown : X → List ℕ) (words : List X)
    (begun longer packed : List ℕ) (i : ℕ) → i < length packed → get_or packed i 0 ≢ 0
    → longer ≡ begun ++ get_or packed i 0 ∷ []
    → words_in packed ≡ behind (map shown words) (begun_with begun (words_in (drop i packed)))
    → words_in packed ≡ behind (map shown words) (begun_with longer (words_in (drop (i + 1) packed)))
lengthened shown words begun longer packed i inside other_byte pushed held =
    held ∙ ap (behind (map shown words)) (next_goes_on begun packed i inside other_byte)
    ∙ ap (λ word. behind (map shown words) (begun_with word (words_in (drop (i + 1) packed)))) (sym pushed)

-- ---- texts

if-true : {X : Type 0} (test : Bool) (x y : X) → test ≡ true → (if test then x else y) ≡ x
if-true test x y is = rw is refl

if-false : {X : Type 0} (test : Bool) (x y : X) → test ≡ false → (if test then x else y) ≡ y
if-false test x y is = rw is refl

-- strings are texts
all-texts : (words : List (String Global)) → list_all is_utf8 (map string_bytes words) ≡ true
all-texts [] = refl
all-texts (word ∷ words) = rw (is_utf8-from_IsUtf8 (string_bytes word) (IsUtf8-string_bytes word)) (all-texts words)

-- all words are there
pub all_there : (words : List (String Global)) (begun packed : List ℕ) (i : ℕ) → length packed ≤ i
    → begun ≡ []
    → words_in packed ≡ behind (map string_bytes words) (begun_with begun (words_in (drop i packed)))
    → map string_bytes words ≡ texts_in packed
all_there words begun packed i past empty held =
    let same : words_in packed ≡ Some (map string_bytes words) =
    held ∙ ap (λ word. behind (map string_bytes words) (begun_with word (words_in (drop i packed)))) empty
    ∙ ap (behind (map string_bytes words)) (none_left packed i past)
    ∙ ap Some (append-nil (map string_bytes words)) in
    sym (ap texts_of same
    ∙ if-true (list_all is_utf8 (map string_bytes words)) (map string_bytes words) [] (all-texts words))

-- the last of them is not ended
pub not_ended : {X : Type 0} (shown : X → List ℕ) (words : List X) (begun packed : List ℕ) (i : ℕ)
    → length packed ≤ i → begun ≢ []
    → words_in packed ≡ behind (map shown words) (begun_with begun (words_in (drop i packed)))
    → [] ≡ texts_in packed
not_ended shown words [] packed i past some held = elim (some refl) [ ]
not_ended shown words (byte ∷ begun) packed i past some held =
    sym (ap texts_of (held ∙ ap (behind (map shown words))
    (ap (begun_with (byte ∷ begun)) (none_left packed i past) ∙ not_over byte begun)))

-- one that fails in the middle fails all
and-false : (test : Bool) → test && false ≡ false
and-false true = refl
and-false false = refl

fails_in_the_middle : {X : Type 0} (test : X → Bool) (xs : List X) (x : X) (ys : List X)
    → test x ≡ false → list_all test (xs ++ x ∷ ys) ≡ false
fails_in_the_middle test [] x ys fails = rw fails refl
fails_in_the_middle test (first ∷ xs) x ys fails =
    rw (fails_in_the_middle test xs x ys fails) (and-false (test first))

not-true : (test : Bool) → (test ≡ true → ⊥) → test ≡ false
not-true true never = absurd (never refl)
not-true false never = refl

-- the word that has begun and ends here is no text
all_fail : (done : List (List ℕ)) (word : List ℕ) (words : Option (List (List ℕ)))
    → is_utf8 word ≡ false → texts_of (behind done (option_map (λ words. word ∷ words) words)) ≡ []
all_fail done word None fails = refl
all_fail done word (Some words) fails =
    if-false (list_all is_utf8 (done ++ word ∷ words)) (done ++ word ∷ words) []
    (fails_in_the_middle is_utf8 done word words fails)

pub no_texts : {X : Type 0} (shown : X → List ℕ) (words : List X) (begun packed : List ℕ) (i : ℕ)
    → i < length packed → get_or packed i 0 ≡ 0
    → words_in packed ≡ behind (map shown words) (begun_with begun (words_in (drop i packed)))
    → (IsUtf8 begun → ⊥) → [] ≡ texts_in packed
no_texts shown words begun packed i inside zero_byte held never =
    let fails : is_utf8 begun ≡ false =
    not-true (is_utf8 begun) (λ is. never (IsUtf8-from_is_utf8 begun is)) in
    sym (ap texts_of (held ∙ ap (behind (map shown words)) (next_ends begun packed i inside zero_byte))
    ∙ all_fail (map shown words) begun (words_in (drop (i + 1) packed)) fails)

-- ---- words put together

first-holds : (test others : Bool) → test && others ≡ true → test ≡ true
first-holds true others hold = refl
first-holds false others hold = hold

others-hold : (test others : Bool) → test && others ≡ true → others ≡ true
others-hold true others hold = hold
others-hold false others hold = absurd (false≢true hold)

-- a word that has no byte 0 is read whole
word_in : (word rest : List ℕ) → has_no_zero word ≡ true
    → words_in ((word ++ 0 ∷ []) ++ rest) ≡ option_map (λ words. word ∷ words) (words_in rest)
unfolding words_in
word_in [] rest whole = refl
word_in (zero ∷ word) rest whole = absurd (false≢true whole)
word_in (suc byte ∷ word) rest whole =
    ap (begun_by (suc byte)) (word_in word rest (others-hold (not (suc byte == 0)) (has_no_zero word) whole))
    ∙ one_more (suc byte) word (words_in rest)

packed_in : (given : List (List ℕ)) → list_all has_no_zero given ≡ true
    → words_in (packed_of given) ≡ Some given
packed_in [] whole = over
packed_in (word ∷ given) whole =
    word_in word (packed_of given) (first-holds (has_no_zero word) (list_all has_no_zero given) whole)
    ∙ ap (option_map (λ words. word ∷ words))
    (packed_in given (others-hold (has_no_zero word) (list_all has_no_zero given) whole))

-- what was put together comes
pub comes_back : (words given : List (List ℕ)) (packed : List ℕ) → words ≡ texts_in packed
    → list_all is_utf8 given ≡ true → list_all has_no_zero given ≡ true → packed ≡ packed_of given
    → words ≡ given
comes_back words given packed came texts whole put =
    came ∙ ap texts_in put ∙ ap texts_of (packed_in given whole)
    ∙ if-true (list_all is_utf8 given) given [] texts

-- ---- words that came, put together again

-- words that came of these bytes are these bytes where they are put together
abbrev Together : List ℕ → Option (List (List ℕ)) → Type 0
Together bytes None = ⊤
Together bytes (Some words) = packed_of words ≡ bytes

together-ended : (rest : List ℕ) (words : Option (List (List ℕ))) → Together rest words
    → Together (0 ∷ rest) (option_map (λ words. [] ∷ words) words)
together-ended rest None held = tt
together-ended rest (Some words) held = ap (λ bytes. 0 ∷ bytes) held

together-begun : (byte : ℕ) (rest : List ℕ) (words : Option (List (List ℕ))) → Together rest words
    → Together (byte ∷ rest) (begun_by byte words)
together-begun byte rest None held = tt
together-begun byte rest (Some []) held = tt
together-begun byte rest (Some (word ∷ words)) held = ap (λ bytes. byte ∷ bytes) held

together : (bytes : List ℕ) → Together bytes (words_in bytes)
unfolding words_in
together [] = refl
together (zero ∷ rest) = together-ended rest (words_in rest) (together rest)
together (suc byte ∷ rest) = together-begun (suc byte) rest (words_in rest) (together rest)

if-some : (test : Bool) (words : List (List ℕ)) (bytes : List ℕ) → packed_of words ≡ bytes
    → (if test then words else []) ≢ [] → packed_of (if test then words else []) ≡ bytes
if-some true words bytes held some = held
if-some false words bytes held some = elim (some refl) [ ]

together-texts : (bytes : List ℕ) (words : Option (List (List ℕ))) → Together bytes words
    → texts_of words ≢ [] → packed_of (texts_of words) ≡ bytes
together-texts bytes None held some = elim (some refl) [ ]
together-texts bytes (Some words) held some = if-some (list_all is_utf8 words) words bytes held some

pub all_given : {X : Type 0} (shown : X → List ℕ) (words : List X) (packed : List ℕ)
    → map shown words ≡ texts_in packed → words ≢ [] → packed ≡ packed_of (map shown words)
all_given shown [] packed came some = elim (some refl) [ ]
all_given shown (word ∷ words) packed came some =
    let any : texts_in packed ≢ [] = λ none. cc (came ∙ none) in
    sym (ap packed_of came ∙ together-texts packed (words_in packed) (together packed) any)
