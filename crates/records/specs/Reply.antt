-- What a call returns: document 01's numbers for each case of the reply.
use Rattle.std.specs.Prelude.{List, [], ℕ, Result, Ok, Err}
use Rattle.network.specs.Refusal.{host_number, Verdict, Accepted, Refused}
use Rattle.method.specs.Answer.{numbers_of}
use Rattle.method.specs.declared.Answer.{Answer}
use Rattle.network.specs.declared.Refusal.{Refusal}

-- The answer, or why the call is turned down.
abbrev pub Reply : Type 0
Reply = Result Answer Refusal

-- The reply of a call with this verdict, where the answer is a.
unfoldable pub reply_of : Verdict → Answer → Reply
reply_of Accepted a = Ok a
reply_of (Refused w) a = Err w

-- Its number as a host call returns it: 0, or a refusal's number times 1,000 plus its place.
unfoldable pub number_in : Reply → ℕ
number_in (Err w) = host_number (Refused w)
number_in (Ok a) = 0

-- The seven numbers of its answer, in the order of the answer table; none where the call is turned down.
unfoldable pub values_in : Reply → List ℕ
values_in (Err w) = []
values_in (Ok a) = numbers_of a
