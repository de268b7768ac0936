-- The laws. View, Discipline, Invariants and ViewLaws say what is shown of views, and BenchView how the tables of a bench are
-- seen; Sound, Acting and Settled say what the calls keep; EveryRun has the theorem.

-- numbers and blocks
pub mod Counts
pub mod Sets
pub mod Chains
pub mod Trees
-- what is seen of a bench, what a step may do, and what holds of every view that a run reaches
pub mod View
pub mod Discipline
pub mod Invariants
-- of one step, and of one view
pub mod StepFacts
pub mod Facts
pub mod Heads
pub mod Stay
-- the invariants last over a step
pub mod TimingKept
pub mod HeadsKept
pub mod BlocksKept
pub mod FinalStays
pub mod ProgressKept
-- over whole runs of views from an opening
pub mod Opened
pub mod Runs
pub mod ViewLaws
pub mod LedRuns
-- steps by what they change
pub mod Moves
-- tests, rows and loops
pub mod Tests
pub mod Rows
pub mod Loops
pub mod Writes
pub mod Least
-- a bench: how its tables are seen, its block numbers, its seats
pub mod BenchView
pub mod Numbering
pub mod Seats
pub mod LawfulTerms
pub mod OpenedTables
-- each write to the tables is a step
pub mod Signing
pub mod TakingIn
pub mod Making
pub mod MovingOn
pub mod Waking
pub mod VotingChoice
pub mod Voting
-- what holds at every moment of a call, and what one seat does
pub mod Sound
pub mod Acting
pub mod ParentChoice
pub mod Proposing
pub mod Leaving
pub mod VotesOfReaction
pub mod Reacting
pub mod HeadChoice
pub mod EndingWaits
-- what holds between calls, and every call keeps it
pub mod Settled
pub mod NothingOverdue
pub mod Ticking
pub mod Delivering
pub mod ByzantineActs
pub mod Planting
pub mod SigningCalls
pub mod OpenedSettled
-- the outcome of a call: refusals, and the order rows
pub mod Outcomes
pub mod OrderRows
pub mod Refusing
-- every run from every accepted opening
pub mod AcceptedOpening
pub mod RunsSettled
pub mod FinalChains
pub mod EveryRun
pub mod InTime
-- runs computed
pub mod OneSeatRun
pub mod PlayedRuns
