mod Changes
mod Steps
