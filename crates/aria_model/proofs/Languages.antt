-- Laws of languages of tokens.
use Rattle.std.proofs.Common.{◌≡◌, List, [], ◌∷◌, ◌++◌, refl, sym, ap, subst, ◌∙◌, append_assoc, ◌⊎◌, inl, inr}
use Rattle.aria_model.specs.Token.{Token}
use Rattle.aria_model.specs.Spelling.{Language, nothing, one, ◌·◌, Either, left, right, ◌∪◌, optional, Sequence, last, more}

-- tokens of a language
pub record Example (L : Language) : Type 0 where
  pub tokens : List Token
  pub holds : L tokens

-- languages with the same tokens
pub record Same (L M : Language) : Type 0 where
  pub to : (w : List Token) → L w → M w
  pub from : (w : List Token) → M w → L w

pub back : {L M : Language} → Same L M → Same M L
back same = record { to = same.from; from = same.to }

pub both : {L M N : Language} → Same L M → Same M N → Same L N
both a b = record { to = λ w h. b.to w (a.to w h); from = λ w h. a.from w (b.from w h) }

-- ---- one token in front

one_in_front : (C : Token → Type 0) (M : Language) {t : Token} {w : List Token} (front behind : List Token) → t ∷ w ≡ front ++ behind → one C front → M behind → C t × M w
one_in_front C M [] behind e h m = absurd h
one_in_front C M {t} {w} (f ∷ []) behind e h m =
    let same : t ≡ f = cc in
    let rest : w ≡ behind = cc in
    (subst C (sym same) h, subst M (sym rest) m)
one_in_front C M (f ∷ g ∷ fs) behind e h m = absurd h

pub front_one : {C : Token → Type 0} {M : Language} {t : Token} {w : List Token} → (one C · M) (t ∷ w) → C t × M w
front_one {C} {M} j = one_in_front C M j.front j.behind j.whole j.first j.second

pub onto_one : {C : Token → Type 0} {M : Language} {t : Token} {w : List Token} → C t → M w → (one C · M) (t ∷ w)
onto_one {t = t} {w = w} h m = record { front = t ∷ []; behind = w; whole = refl; first = h; second = m }

-- ---- how what is put together regroups

pub joined_assoc : (L M N : Language) → Same ((L · M) · N) (L · (M · N))
joined_assoc L M N = record {
  to = λ w j. record {
    front = j.first.front;
    behind = j.first.behind ++ j.behind;
    whole = j.whole ∙ ap (λ u. u ++ j.behind) j.first.whole ∙ append_assoc j.first.front j.first.behind j.behind;
    first = j.first.first;
    second = record { front = j.first.behind; behind = j.behind; whole = refl; first = j.first.second; second = j.second };
  };
  from = λ w j. record {
    front = j.front ++ j.second.front;
    behind = j.second.behind;
    whole = j.whole ∙ ap (λ u. j.front ++ u) j.second.whole ∙ sym (append_assoc j.front j.second.front j.second.behind);
    first = record { front = j.front; behind = j.second.front; whole = refl; first = j.first; second = j.second.first };
    second = j.second.second;
  };
}

pub joined_same : {L L' : Language} (M : Language) → Same L L' → Same (L · M) (L' · M)
joined_same M same = record {
  to = λ w j. record { front = j.front; behind = j.behind; whole = j.whole; first = same.to j.front j.first; second = j.second };
  from = λ w j. record { front = j.front; behind = j.behind; whole = j.whole; first = same.from j.front j.first; second = j.second };
}

nothing_in_front : (M : Language) (w front behind : List Token) → w ≡ front ++ behind → front ≡ [] → M behind → M w
nothing_in_front M w front behind e none m = subst M (sym (e ∙ ap (λ u. u ++ behind) none)) m

pub nothing_joined : (M : Language) → Same (nothing · M) M
nothing_joined M = record {
  to = λ w j. nothing_in_front M w j.front j.behind j.whole j.first j.second;
  from = λ w m. record { front = []; behind = w; whole = refl; first = refl; second = m };
}

either_split : {L N M : Language} {w : List Token} (front behind : List Token) → w ≡ front ++ behind → (L ∪ N) front → M behind → Either (L · M) (N · M) w
either_split front behind e (left h) m = left (record { front = front; behind = behind; whole = e; first = h; second = m })
either_split front behind e (right h) m = right (record { front = front; behind = behind; whole = e; first = h; second = m })

either_merge : {L N M : Language} {w : List Token} → Either (L · M) (N · M) w → ((L ∪ N) · M) w
either_merge (left j) = record { front = j.front; behind = j.behind; whole = j.whole; first = left j.first; second = j.second }
either_merge (right j) = record { front = j.front; behind = j.behind; whole = j.whole; first = right j.first; second = j.second }

pub either_joined : (L N M : Language) → Same ((L ∪ N) · M) (Either (L · M) (N · M))
either_joined L N M = record { to = λ w j. either_split j.front j.behind j.whole j.first j.second; from = λ w h. either_merge h }

either_to : {L L' M M' : Language} {w : List Token} → ((u : List Token) → L u → L' u) → ((u : List Token) → M u → M' u) → Either L M w → Either L' M' w
either_to {w = w} f g (left h) = left (f w h)
either_to {w = w} f g (right h) = right (g w h)

pub either_same : {L L' M M' : Language} → Same L L' → Same M M' → Same (Either L M) (Either L' M')
either_same a b = record { to = λ w h. either_to a.to b.to h; from = λ w h. either_to a.from b.from h }

pub same_self : (L : Language) → Same L L
same_self L = record { to = λ w h. h; from = λ w h. h }

-- what is optional in front of others
pub optional_joined : (L M : Language) → Same (optional L · M) (Either M (L · M))
optional_joined L M = both (either_joined nothing L M) (either_same (nothing_joined M) (same_self (L · M)))

-- what comes behind an item
abbrev pub Tail : Language → Language → Language → Language
Tail item between M = Either M (between · (Sequence item between · M))

sequence_split : {item between M : Language} {w : List Token} (front behind : List Token) → w ≡ front ++ behind → Sequence item between front → M behind → (item · Tail item between M) w
sequence_split front behind e (last h) m = record { front = front; behind = behind; whole = e; first = h; second = left m }
sequence_split front behind e (more f s rest parts h b q) m = record {
  front = f;
  behind = (s ++ rest) ++ behind;
  whole = e ∙ ap (λ u. u ++ behind) parts ∙ append_assoc f (s ++ rest) behind;
  first = h;
  second = right (record {
    front = s;
    behind = rest ++ behind;
    whole = append_assoc s rest behind;
    first = b;
    second = record { front = rest; behind = behind; whole = refl; first = q; second = m };
  });
}

sequence_merge : {item between M : Language} {w : List Token} (front behind : List Token) → w ≡ front ++ behind → item front → Tail item between M behind → (Sequence item between · M) w
sequence_merge front behind e h (left m) = record { front = front; behind = behind; whole = e; first = last h; second = m }
sequence_merge front behind e h (right j) = record {
  front = front ++ (j.front ++ j.second.front);
  behind = j.second.behind;
  whole = e ∙ ap (λ u. front ++ u) (j.whole ∙ ap (λ u. j.front ++ u) j.second.whole ∙ sym (append_assoc j.front j.second.front j.second.behind)) ∙ sym (append_assoc front (j.front ++ j.second.front) j.second.behind);
  first = more front j.front j.second.front refl h j.first j.second.first;
  second = j.second.second;
}

pub sequence_joined : (item between M : Language) → Same (Sequence item between · M) (item · Tail item between M)
sequence_joined item between M = record {
  to = λ w j. sequence_split j.front j.behind j.whole j.first j.second;
  from = λ w j. sequence_merge j.front j.behind j.whole j.first j.second;
}

-- ---- two classes of tokens

either_one : {C D : Token → Type 0} (w : List Token) → (one C ∪ one D) w → one (λ t. C t ⊎ D t) w
either_one [] (left h) = absurd h
either_one [] (right h) = absurd h
either_one (t ∷ []) (left h) = inl h
either_one (t ∷ []) (right h) = inr h
either_one (t ∷ u ∷ ts) (left h) = absurd h
either_one (t ∷ u ∷ ts) (right h) = absurd h

one_either : {C D : Token → Type 0} {t : Token} → C t ⊎ D t → (one C ∪ one D) (t ∷ [])
one_either (inl h) = left h
one_either (inr h) = right h

one_of : {C D : Token → Type 0} (w : List Token) → one (λ t. C t ⊎ D t) w → (one C ∪ one D) w
one_of [] h = absurd h
one_of (t ∷ []) h = one_either h
one_of (t ∷ u ∷ ts) h = absurd h

pub one_same : (C D : Token → Type 0) → Same (one (λ t. C t ⊎ D t)) (one C ∪ one D)
one_same C D = record { to = one_of; from = either_one }

-- ---- how the tokens of a language begin

-- the first token is of a class, and there is one
abbrev pub HasHead : (Token → Type 0) → List Token → Type 0
HasHead C [] = ⊥
HasHead C (t ∷ ts) = C t

pub record Heads (C : Token → Type 0) (L : Language) : Type 0 where
  pub heads : (w : List Token) → L w → HasHead C w

has_head : (C : Token → Type 0) (w : List Token) → one C w → HasHead C w
has_head C [] h = absurd h
has_head C (t ∷ []) h = h
has_head C (t ∷ u ∷ ts) h = absurd h

pub heads_one : (C : Token → Type 0) → Heads C (one C)
heads_one C = record { heads = has_head C }

head_append : (C : Token → Type 0) (front behind : List Token) → HasHead C front → HasHead C (front ++ behind)
head_append C [] behind h = absurd h
head_append C (t ∷ ts) behind h = h

pub heads_joined : {C : Token → Type 0} {L : Language} (M : Language) → Heads C L → Heads C (L · M)
heads_joined {C} M head = record { heads = λ w j. subst (HasHead C) (sym j.whole) (head_append C j.front j.behind (head.heads j.front j.first)) }

head_either : (C D : Token → Type 0) (w : List Token) → HasHead C w ⊎ HasHead D w → HasHead (λ t. C t ⊎ D t) w
head_either C D [] (inl h) = absurd h
head_either C D [] (inr h) = absurd h
head_either C D (t ∷ ts) h = h

heads_either_at : {C D : Token → Type 0} {L M : Language} {w : List Token} → Heads C L → Heads D M → Either L M w → HasHead (λ t. C t ⊎ D t) w
heads_either_at {C} {D} {w = w} a b (left h) = head_either C D w (inl (a.heads w h))
heads_either_at {C} {D} {w = w} a b (right h) = head_either C D w (inr (b.heads w h))

pub heads_either : {C D : Token → Type 0} {L M : Language} → Heads C L → Heads D M → Heads (λ t. C t ⊎ D t) (L ∪ M)
heads_either a b = record { heads = λ w h. heads_either_at a b h }

pub heads_same : {C : Token → Type 0} {L M : Language} → Same L M → Heads C L → Heads C M
heads_same same a = record { heads = λ w h. a.heads w (same.from w h) }

heads_sequence_at : {C : Token → Type 0} {item between : Language} {w : List Token} → Heads C item → Sequence item between w → HasHead C w
heads_sequence_at {w = w} a (last h) = a.heads w h
heads_sequence_at {C} {w = w} a (more front middle behind parts h b q) = subst (HasHead C) (sym parts) (head_append C front (middle ++ behind) (a.heads front h))

pub heads_sequence : {C : Token → Type 0} {item : Language} (between : Language) → Heads C item → Heads C (Sequence item between)
heads_sequence between a = record { heads = λ w h. heads_sequence_at a h }

-- the tokens of a language begin with none of a class
pub record Avoids (C : Token → Type 0) (M : Language) : Type 0 where
  pub avoids : (t : Token) (w : List Token) → M (t ∷ w) → ¬ (C t)

pub avoids_heads : {C D : Token → Type 0} {M : Language} → Heads D M → ((t : Token) → D t → ¬ (C t)) → Avoids C M
avoids_heads head apart = record { avoids = λ t w h. apart t (head.heads (t ∷ w) h) }

either_avoids : {C : Token → Type 0} {L M : Language} {t : Token} {w : List Token} → Avoids C L → Avoids C M → Either L M (t ∷ w) → ¬ (C t)
either_avoids {t = t} {w = w} a b (left h) = a.avoids t w h
either_avoids {t = t} {w = w} a b (right h) = b.avoids t w h

pub avoids_either : {C : Token → Type 0} {L M : Language} → Avoids C L → Avoids C M → Avoids C (Either L M)
avoids_either a b = record { avoids = λ t w h. either_avoids a b h }

-- how two tokens in front are
pub front_two : {C D : Token → Type 0} {R M : Language} {t u : Token} {w : List Token} → ((one C · (one D · R)) · M) (t ∷ u ∷ w) → C t × D u
front_two {C} {D} {R} {M} {t} {u} {w} h =
    let first : C t × ((one D · R) · M) (u ∷ w) = front_one ((joined_assoc (one C) (one D · R) M).to (t ∷ u ∷ w) h) in
    (first.0, (front_one ((joined_assoc (one D) R M).to (u ∷ w) first.1)).0)

-- ---- examples

pub one_example : {C : Token → Type 0} (t : Token) → C t → Example (one C)
one_example t h = record { tokens = t ∷ []; holds = h }

pub joined_example : {L M : Language} → Example L → Example M → Example (L · M)
joined_example a b = record { tokens = a.tokens ++ b.tokens; holds = record { front = a.tokens; behind = b.tokens; whole = refl; first = a.holds; second = b.holds } }

pub left_example : {L : Language} (M : Language) → Example L → Example (L ∪ M)
left_example M a = record { tokens = a.tokens; holds = left a.holds }

pub optional_example : (L : Language) → Example (optional L)
optional_example L = record { tokens = []; holds = left refl }

pub sequence_example : {item : Language} (between : Language) → Example item → Example (Sequence item between)
sequence_example between a = record { tokens = a.tokens; holds = last a.holds }
