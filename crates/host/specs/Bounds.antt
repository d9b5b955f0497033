-- Numbers of the rules about the host: rules L of docs/RULES.md.
use Rattle.std.specs.Prelude.{ℕ}

-- octets of the output buffer that every call but set-up needs
abbrev pub room : ℕ
room = 512

-- octets of a reply at the most
abbrev pub reply_limit : ℕ
reply_limit = 512

-- the latest time in milliseconds: 2^48 - 1
abbrev pub latest : ℕ
latest = 281474976710655

-- octets of a datagram
abbrev pub shortest : ℕ
shortest = 12

abbrev pub longest : ℕ
longest = 9194

-- the two repeat intervals in milliseconds
abbrev pub short : ℕ
short = 100

abbrev pub long : ℕ
long = 1000

-- how often the query of a check is sent
abbrev pub sends_in_all : ℕ
sends_in_all = 3

-- a second in milliseconds
abbrev pub second : ℕ
second = 1000

-- how long in milliseconds a lost name is not tried again if no answer of the response that took it can be read
abbrev pub rest_without : ℕ
rest_without = 30000

-- the class that asks for any class
abbrev pub any_class : ℕ
any_class = 255
