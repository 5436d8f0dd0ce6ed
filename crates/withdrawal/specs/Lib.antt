pub mod Withdrawal
