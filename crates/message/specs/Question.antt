-- A question: a name without pointers, type, class.
use Rattle.std.specs.Prelude.{ℕ, ◌+◌, ◌≤◌, ◌≡◌, List, ◌++◌, Bool, true, false, cond, length, None, Option, Some}
use Rattle.octets.specs.Octets.{runs_past}
use Rattle.octets.specs.Words.{big_at, big_octets}
use Rattle.names.specs.declared.Name.{Name}
use Rattle.names.specs.Names.{NameAt}
use Rattle.names.specs.NameWalk.{name_at}
use Rattle.message.specs.declared.Question.{Question}

-- a question whose name n stands at an offset: it hands on the name's labels too
abbrev pub question_of : List ℕ → ℕ → Name → Question
question_of s at n =
    record {
      name = n.len;
      labels = n.labels;
      qtype = big_at s (at + n.len);
      class = big_at s (at + n.len + 2);
      end = at + n.len + 4;
    }

abbrev pub after_name : List ℕ → ℕ → Option Name → Option Question
after_name s at (Some n) = cond (runs_past (length s) (at + n.len) 4) None (Some (question_of s at n))
after_name s at None = None

-- the question at an offset; bad if its name is, or it is cut short
unfoldable pub question_at : List ℕ → ℕ → Option Question
question_at s at = after_name s at (name_at s at)

-- a question that is bad reads as zeros
abbrev pub question_or : Option Question → Question
question_or (Some q) = q
question_or None = record { name = 0; labels = 0; qtype = 0; class = 0; end = 0 }

abbrev pub is_bad_question : Option Question → Bool
is_bad_question (Some q) = false
is_bad_question None = true

-- in plain words: a name stands there, with so many labels, and type and class after it
pub record IsQuestion (s : List ℕ) (at : ℕ) (q : Question) : Type 0 where
  pub name : NameAt s at q.name
  pub labels : q.labels ≡ length name.name
  pub whole : at + q.name + 4 ≤ length s
  pub qtype : q.qtype ≡ big_at s (at + q.name)
  pub class : q.class ≡ big_at s (at + q.name + 2)
  pub end : q.end ≡ at + q.name + 4

-- the octets of a question
abbrev pub question_octets : List ℕ → ℕ → ℕ → List ℕ
question_octets name qtype class = name ++ big_octets qtype ++ big_octets class
